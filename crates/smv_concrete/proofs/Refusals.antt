-- What a unit is refused for at given sizes, by the numbers that the code counts.
use Rattle.std.proofs.Common.{◌≡◌, ◌≢◌, ◌≤◌, ◌<◌, ℕ, List, map, length, Option, Some, None, Bool, true, false, ◌||◌, ◌⊎◌, inl, inr, if◌then◌else◌, nat_eq, nat_lt, refl, sym, ap, subst, ◌∙◌, arith}
use Rattle.std.specs.Prelude.{MatchOption}
use Rattle.std.specs.List.{list_any}
use Rattle.law_lists.proofs.Lists.{length_map, map-map, map_agree}
use Rattle.law_lists.proofs.Options.{some_is}
use Rattle.law_lists.proofs.Numbers.{nat_eq-apart, nat_eq-same, nat_lt-false, nat_lt-true}
use Rattle.smv_core.specs.FlatMeaning.{Numbered}
use Rattle.smv_core.specs.declared.abstract_type.AbsType.{AbsType}
use Rattle.smv_core.specs.declared.fault.Fault.{Fault}
use Rattle.smv_core.specs.declared.flat.Case.{Case}
use Rattle.smv_core.specs.declared.flat.Design.{Design}
use Rattle.smv_core.specs.declared.flat.Family.{Family}
use Rattle.smv_core.specs.declared.flat.Param.{Param}
use Rattle.smv_core.specs.declared.flat.Simple.{Simple}
use Rattle.smv_core.specs.declared.flat.Unit.{Unit}
use Rattle.smv_mentions.specs.FirstFault.{or_else}
use Rattle.law_obligations.specs.Covers.{AreApart}
use Rattle.law_obligations.specs.Outlines.{names_of, unit_in}
use Rattle.law_obligations.specs.Sets.{one_of_each}
use Rattle.law_obligations.specs.Soundness.{FlatUnit, claim_of, map_of, params_of}
use Rattle.law_concrete.specs.Concrete.{classes_of_type, concrete_cases, sized}
use Rattle.law_concrete.specs.Sizes.{at_unit, cases_fault, element_count, product, sizes_at, undeclared}
use Rattle.smv_cases.specs.Slots.{classes_of}
use Rattle.smv_reads.specs.Views.{classes_in}
use Rattle.smv_concrete.specs.Counts.{IsWithin}
use Rattle.smv_concrete.specs.Subjects.{IsSubject, cases_in, unit_of}
use Rattle.smv_concrete.specs.declared.subjects.Subject.{Subject}
use Rattle.smv_concrete.proofs.ClassLaws.{classes-are}
use Rattle.smv_concrete.proofs.Products.{cases-long}

-- as many cases as the product of the counts
pub counted : {X Y : Type 0} (f : X → List Y) (xs : List X) → length (one_of_each (map f xs)) ≡ product (map (λ x. length (f x)) xs)
counted f xs = cases-long (map f xs) ∙ ap product (map-map length f xs)

-- a product beyond a limit, and one within it
pub beyond-is : (limit k : ℕ) (o : Option ℕ) → o ≡ None → IsWithin limit k o → nat_lt limit k ≡ true
beyond-is limit k None e h = nat_lt-true limit k h
beyond-is limit k (Some n) e h = absurd (cc (e))

pub within-is : (limit k n : ℕ) (o : Option ℕ) → o ≡ Some n → IsWithin limit k o → nat_lt limit k ≡ false
within-is limit k n None e h = absurd (cc (e))
within-is limit k n (Some m) e h = nat_lt-false limit k (let same = h.0 in let few = h.1 in omega (arith, same, few))

-- ---- faults in their order

module _ (d : Design) (unit : Unit) (given : List ℕ) where
  abbrev n : Numbered
  n = sized d (sizes_at d.sets given)

  abbrev wide : Bool
  wide = list_any (λ (f : Family). nat_lt 256 (element_count (sized d (sizes_at d.sets given)) f)) d.families

  abbrev types : List Simple
  types = params_of (sized d (sizes_at d.sets given)) (unit_in d unit)

  abbrev by_number : Bool → Option Fault
  by_number b = if b then None else Some (record { number = 34; at = 0 })

  abbrev by_width : Bool → Option Fault
  by_width b = if b then Some (at_unit d unit given 35) else None

  abbrev by_count : Bool → Option Fault
  by_count b = if b then Some (at_unit d unit given 29) else None

  abbrev in_order : Bool → Bool → Bool → Option Fault
  in_order number width count = or_else (by_number number) (or_else (by_width width) (by_count count))

  abbrev many : Bool
  many = nat_lt 8 (length types) || nat_lt 4096 (length (concrete_cases d (sizes_at d.sets given) unit))

  faults-are : (a b c : Bool) → nat_eq (length given) (undeclared d.sets) ≡ a → wide ≡ b → many ≡ c → cases_fault d unit given ≡ in_order a b c
  faults-are a b c x y z = λ i. in_order (x i) (y i) (z i)

  pub number-wrong : length given ≢ undeclared d.sets → cases_fault d unit given ≡ Some (record { number = 34; at = 0 })
  number-wrong not = faults-are false wide many (nat_eq-apart (length given) (undeclared d.sets) not) refl refl

  module _ (right : length given ≡ undeclared d.sets) where
    number : nat_eq (length given) (undeclared d.sets) ≡ true
    number = nat_eq-same (length given) (undeclared d.sets) (sym right)

    pub width-wrong : wide ≡ true → cases_fault d unit given ≡ Some (at_unit d unit given 35)
    width-wrong is = faults-are true true many number is refl

    module _ (narrow : wide ≡ false) where
      pub count-wrong : (8 < length types) ⊎ (4096 < length (concrete_cases d (sizes_at d.sets given) unit)) → cases_fault d unit given ≡ Some (at_unit d unit given 29)
      count-wrong over = faults-are true false true number narrow (is-many over)
        where
          either : (a b : Bool) → a ≡ true → a || b ≡ true
          either true b e = refl
          either false b e = absurd (cc (e))

          other : (a b : Bool) → b ≡ true → a || b ≡ true
          other true b e = refl
          other false b e = e

          is-many : (8 < length types) ⊎ (4096 < length (concrete_cases d (sizes_at d.sets given) unit)) → many ≡ true
          is-many (inl l) = either (nat_lt 8 (length types)) (nat_lt 4096 (length (concrete_cases d (sizes_at d.sets given) unit))) (nat_lt-true 8 (length types) l)
          is-many (inr l) = other (nat_lt 8 (length types)) (nat_lt 4096 (length (concrete_cases d (sizes_at d.sets given) unit))) (nat_lt-true 4096 (length (concrete_cases d (sizes_at d.sets given) unit)) l)

      pub none-wrong : length types ≤ 8 → length (concrete_cases d (sizes_at d.sets given) unit) ≤ 4096 → cases_fault d unit given ≡ None
      none-wrong params cases =
          faults-are true false false number narrow (λ i. nat_lt-false 8 (length types) params i || nat_lt-false 4096 (length (concrete_cases d (sizes_at d.sets given) unit)) cases i)

-- ---- the parameters of a subject

module _ (s : Subject) (h : IsSubject s) (apart : AreApart s.design.now.sets) where
  abbrev at_sizes : Numbered
  at_sizes = sized s.design.now (sizes_at s.design.now.sets s.sizes.now)

  same-types : (unit : FlatUnit) → params_of (names_of s.design.now) unit ≡ params_of at_sizes unit
  same-types (map_of def) = refl
  same-types (claim_of claim) = refl

  own : map (λ (q : Param). q.over) s.leaf.now.params ≡ params_of at_sizes (unit_in s.design.now (unit_of s))
  own = h.params ∙ same-types (unit_in s.design.now (unit_of s))

  -- they are as many as those of the unit
  pub params-long : length s.leaf.now.params ≡ length (params_of at_sizes (unit_in s.design.now (unit_of s)))
  params-long = sym (length_map (λ (q : Param). q.over) s.leaf.now.params) ∙ ap length own

  class-lists : map (λ (q : Param). classes_in s.types.now q.over) s.leaf.now.params ≡ map (classes_of_type at_sizes) (params_of at_sizes (unit_in s.design.now (unit_of s)))
  class-lists =
      map_agree (λ (q : Param). classes_in s.types.now q.over) (λ (q : Param). classes_of_type at_sizes q.over) (λ (q : Param). ap (λ (ts : List AbsType). classes_in ts q.over) h.types ∙ classes-are s.design.now s.sizes.now apart q.over) s.leaf.now.params
      ∙ (sym (map-map (classes_of_type at_sizes) (λ (q : Param). q.over) s.leaf.now.params) ∙ ap (map (classes_of_type at_sizes)) own)

  -- and so are their cases
  pub cases-are : one_of_each (map (λ (q : Param). classes_in s.types.now q.over) s.leaf.now.params) ≡ cases_in s
  cases-are = ap one_of_each class-lists

  abbrev TooMany : List Param → Type 0
  TooMany params = (8 < length params) ⊎ (4096 < length (one_of_each (map (λ (q : Param). classes_in s.types.now q.over) params)))

  abbrev Few : List Param → List Case → Type 0
  Few params cases = (classes_of cases ≡ one_of_each (map (λ (q : Param). classes_in s.types.now q.over) params)) × (length params ≤ 8) × (length (one_of_each (map (λ (q : Param). classes_in s.types.now q.over) params)) ≤ 4096)

  abbrev AreCases : List Case → Type 0
  AreCases cases = (classes_of cases ≡ cases_in s) × (length (params_of at_sizes (unit_in s.design.now (unit_of s))) ≤ 8) × (length (cases_in s) ≤ 4096)

  -- what the code counts, as it is of the unit
  pub few-are : (params : List Param) (o : Option (List Case)) (cases : List Case) → params ≡ s.leaf.now.params → o ≡ Some cases → MatchOption o (TooMany params) (λ found. Few params found) → AreCases cases
  few-are params None cases same is m = absurd (cc (is))
  few-are params (Some found) cases same is m =
      let here = subst (λ (ps : List Param). Few ps found) same m in
      let long = params-long in
      let most = ap length cases-are in
      let few = here.1 in
      let fewer = here.2 in (ap classes_of (sym (some_is is)) ∙ (here.0 ∙ cases-are), omega (arith, long, few), omega (arith, most, fewer))

  pub many-are : (params : List Param) (o : Option (List Case)) → params ≡ s.leaf.now.params → o ≡ None → MatchOption o (TooMany params) (λ found. Few params found) → (8 < length (params_of at_sizes (unit_in s.design.now (unit_of s)))) ⊎ (4096 < length (cases_in s))
  many-are params (Some found) same is m = absurd (cc (is))
  many-are params None same is m = which (subst TooMany same m)
    where
      which : TooMany s.leaf.now.params → (8 < length (params_of at_sizes (unit_in s.design.now (unit_of s)))) ⊎ (4096 < length (cases_in s))
      which (inl l) = let long = params-long in inl (omega (arith, long, l))
      which (inr l) = let most = ap length cases-are in inr (omega (arith, most, l))
