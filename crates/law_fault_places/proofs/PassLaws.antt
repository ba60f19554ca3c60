-- The first fault of all passes has a number of 1 to 31, and stands among the places of the tree.
use Rattle.std.proofs.Common.{◌≡◌, ◌≤◌, ◌&&◌, ◌||◌, ℕ, Bool, true, false, cond, List, [], ◌∷◌, length, slice_get, Option, Some, None, IfSome, nat_eq, nat_le, nat_lt, unwrap_or, refl, arith}
use Rattle.std.specs.List.{AllByRecursion, flat_map, list_any, list_all}
use Rattle.std.specs.Option.{option_to_list}
use Rattle.law_lists.proofs.Each.{each_in_any}
use Rattle.smv_core.specs.declared.fault.Fault.{Fault}
use Rattle.smv_core.specs.declared.flat.Def.{Def}
use Rattle.smv_core.specs.declared.flat.Claim.{Claim}
use Rattle.smv_core.specs.declared.flat.Design.{Design}
use Rattle.smv_core.specs.declared.flat.Unit.{Unit}
use Rattle.smv_core.specs.declared.flat.Unit.TheVariants as unit
use Rattle.smv_core.specs.declared.flat.Leaf.{Leaf}
use Rattle.smv_core.specs.declared.flat.Choice.{Choice}
use Rattle.smv_core.specs.declared.flat.Class.{Class}
use Rattle.smv_mentions.specs.FirstFault.{first_of}
use Rattle.law_obligations.specs.LeafCases.{leaf_cases}
use Rattle.law_obligations.specs.Outlines.{as_map, as_claim, unit_in}
use Rattle.law_obligations.specs.Units.{units_of}
use Rattle.law_problems.specs.Parts.{place_of_unit, fault_at_unit, bits_with, cases_fault, width_fault}
use Rattle.law_valid_texts.specs.Faults.{first_there, parts_of, faults_of_cases, faults_of_widths}
use Rattle.law_fault_places.specs.FaultPlaces.{IsFaultOf}
use Rattle.law_fault_places.proofs.TreeLists.{all-found}
use Rattle.law_fault_places.proofs.Firsts.{first-one}
use Rattle.law_fault_places.specs.FlatPlaces.{ClaimIsWithin, DefIsWithin, DesignIsWithin}
use Rattle.law_fault_places.specs.NameFaultPlaces.{numbers_of_names}
use Rattle.law_fault_places.specs.KindFaultPlaces.{numbers_of_kinds}
use Rattle.law_fault_places.specs.DesignFaultPlaces.{numbers_of_single, numbers_of_designs, numbers_of_sets}
use Rattle.law_fault_places.specs.ProofFaultPlaces.{numbers_of_splits, numbers_of_uses}
use Rattle.law_fault_places.specs.PassFaults.{IsFaultWithin}

-- ---- numbers

abbrev is_number : ℕ → Bool
is_number k = nat_le 1 k && nat_le k 31

numbers-are : (k : ℕ) (numbers : List ℕ) → list_all is_number numbers ≡ true → list_any (nat_eq k) numbers ≡ true → is_number k ≡ true
numbers-are k [] all e = absurd (cc (e))
numbers-are k (j ∷ numbers) all e = by (nat_eq k j) (is_number j) refl refl all e (λ rest. numbers-are k numbers rest)
  where
    same : nat_eq k j ≡ true → k ≡ j
    same h = grind arith

    by : (b good : Bool) → nat_eq k j ≡ b → is_number j ≡ good → (good && list_all is_number numbers) ≡ true → (b || list_any (nat_eq k) numbers) ≡ true
        → (list_all is_number numbers ≡ true → list_any (nat_eq k) numbers ≡ true → is_number k ≡ true) → is_number k ≡ true
    by true true h g all e more = rw (same h) g
    by true false h g all e more = absurd (cc (all))
    by false true h g all e more = more all e
    by false false h g all e more = absurd (cc (all))

bounds : (k : ℕ) → is_number k ≡ true → (1 ≤ k) × (k ≤ 31)
bounds k e = by (nat_le 1 k) (nat_le k 31) refl refl e
  where
    by : (b c : Bool) → nat_le 1 k ≡ b → nat_le k 31 ≡ c → (b && c) ≡ true → (1 ≤ k) × (k ≤ 31)
    by true true h g e = ((grind arith), (grind arith))
    by true false h g e = absurd (cc (e))
    by false c h g e = absurd (cc (e))

module _ (n : ℕ) where
  abbrev Stands : Fault → Type 0
  Stands fault = IsFaultWithin n fault.number fault.at

  stands : (numbers : List ℕ) → list_all is_number numbers ≡ true → (o : Option Fault) → IfSome o (IsFaultOf numbers n) → IfSome o Stands
  stands numbers all None h = tt
  stands numbers all (Some fault) h = let b = bounds fault.number (numbers-are fault.number numbers all h.number) in record { lowest = b.0; highest = b.1; place = h.place }

  -- ---- cases and their state bits

  map-placed : (o : Option Def) → IfSome o (DefIsWithin n) → place_of_unit (as_map o) ≤ n
  map-placed None h = omega arith
  map-placed (Some def) h = h.3

  claim-placed : (o : Option Claim) → IfSome o (ClaimIsWithin n) → place_of_unit (as_claim o) ≤ n
  claim-placed None h = omega arith
  claim-placed (Some claim) h = h.2

  pub unit-placed : (d : Design) → DesignIsWithin n d → (u : Unit) → place_of_unit (unit_in d u) ≤ n
  unit-placed d h (unit.Map def) = map-placed (slice_get d.defs def) (all-found (DefIsWithin n) d.defs def h.defs)
  unit-placed d h (unit.Claim claim) = claim-placed (slice_get d.claims claim) (all-found (ClaimIsWithin n) d.claims claim h.claims)

  module _ (d : Design) (h : DesignIsWithin n d) where
    listed-if : (b : Bool) (number : ℕ) (leaf : Leaf) → (1 ≤ number) × (number ≤ 31) → AllByRecursion Stands (option_to_list (cond b (Some (fault_at_unit number d leaf)) None))
    listed-if true number leaf e = (record { lowest = e.0; highest = e.1; place = unit-placed d h (unwrap_or (slice_get (units_of d) leaf.unit) (unit.Claim 0)) }, tt)
    listed-if false number leaf e = tt

    cases-within : AllByRecursion Stands (faults_of_cases d)
    cases-within =
        each_in_any Stands (λ (p : Leaf × Choice). option_to_list (cases_fault d p.0 p.1))
        (λ p. listed-if (nat_lt 8 (length p.0.params) || nat_lt 4096 (length (leaf_cases d.sets p.0.params p.1.keeps))) 29 p.0 (omega arith, omega arith)) (parts_of d)

    widths-within : AllByRecursion Stands (faults_of_widths d)
    widths-within =
        each_in_any Stands (λ (p : Leaf × Choice). flat_map (λ (classes : List Class). option_to_list (width_fault d p.0 p.1 classes)) (leaf_cases d.sets p.0.params p.1.keeps))
        (λ p. each_in_any Stands (λ (classes : List Class). option_to_list (width_fault d p.0 p.1 classes)) (λ classes. listed-if (nat_lt 1024 (bits_with d p.0 p.1 classes)) 30 p.0 (omega arith, omega arith))
        (leaf_cases d.sets p.0.params p.1.keeps)) (parts_of d)

  -- ---- all passes

  first-there : (os : List (Option Fault)) → AllByRecursion (λ (o : Option Fault). IfSome o Stands) os → IfSome (first_there os) Stands
  first-there [] h = tt
  first-there (None ∷ os) h = first-there os h.1
  first-there (Some fault ∷ os) h = h.0

  -- the passes in their order
  pub passes-within : (names kinds single loops sets splits uses : Option Fault) (d : Design) → DesignIsWithin n d → IfSome names (IsFaultOf numbers_of_names n) → IfSome kinds (IsFaultOf numbers_of_kinds n) →
      IfSome single (IsFaultOf numbers_of_single n) → IfSome loops (IsFaultOf numbers_of_designs n) → IfSome sets (IsFaultOf numbers_of_sets n) → IfSome splits (IsFaultOf numbers_of_splits n) →
      IfSome uses (IsFaultOf numbers_of_uses n) →
      IfSome (first_there (names ∷ kinds ∷ single ∷ loops ∷ sets ∷ splits ∷ uses ∷ first_of (faults_of_cases d) ∷ first_of (faults_of_widths d) ∷ [])) Stands
  passes-within names kinds single loops sets splits uses d design a b c e f g h =
      first-there (names ∷ kinds ∷ single ∷ loops ∷ sets ∷ splits ∷ uses ∷ first_of (faults_of_cases d) ∷ first_of (faults_of_widths d) ∷ []) (
        stands numbers_of_names refl names a,
        (
          stands numbers_of_kinds refl kinds b,
          (
            stands numbers_of_single refl single c,
            (
              stands numbers_of_designs refl loops e,
              (
                stands numbers_of_sets refl sets f,
                (
                  stands numbers_of_splits refl splits g,
                  (
                    stands numbers_of_uses refl uses h,
                    (
                      first-one Stands (faults_of_cases d) (cases-within d design),
                      (first-one Stands (faults_of_widths d) (widths-within d design), tt),
                    ),
                  ),
                ),
              ),
            ),
          ),
        ),
      )
