-- What is found along the reads of chosen definitions is the same-time set.
use Rattle.std.proofs.Common.{◌≡◌, ℕ, suc, ◌+◌, ◌<◌, ◌⊎◌, List, [], ◌∷◌, ◌++◌, length, Bool, true, false, if◌then◌else◌, ◌||◌, refl, ap, sym, subst, inl, inr, Option, Some, None, option_to_list, nat_eq, nat_lt, arith}
use Rattle.std.proofs.lemmas.Bool.Decides.{nat_tests}
use Rattle.std.specs.List.{flat_map, slice_get}
use Rattle.std.specs.Prelude.{slice_index_or}
use Rattle.std.proofs.lemmas.Option.{slice_get_within}
use Rattle.law_lists.proofs.Numbers.{nat_eq-is}
use Rattle.law_lists.proofs.Booleans.{same_tests}
use Rattle.smv_core.specs.Values.{number, numbers_from}
use Rattle.smv_core.specs.declared.flat.Family.{Family}
use Rattle.smv_core.specs.declared.flat.Def.{Def}
use Rattle.smv_core.specs.declared.flat.DefBody.{DefBody}
use Rattle.smv_core.specs.declared.flat.FlatExpr.{FlatExpr}
use Rattle.smv_core.specs.declared.flat.Assumed.{Assumed}
use Rattle.law_obligations.specs.Sets.{Has, first, later}
use Rattle.law_obligations.specs.Places.{named}
use Rattle.law_obligations.specs.Soundness.{FlatUnit, map_of, claim_of}
use Rattle.law_obligations.proofs.Members.{Has-uncons, any-found, any-some}
use Rattle.law_obligations.proofs.Same.{nat_eq-itself}
use Rattle.law_obligations.proofs.Spots.{Has-numbers}
use Rattle.law_obligations.proofs.OneOfEach.{Has-from_flat_map}
use Rattle.law_obligations.proofs.CoverLists.{length-numbers}
use Rattle.law_obligations.specs.Reached.{IsLeast}
use Rattle.law_obligations.specs.Outlines.{Entry, Outline, unit_in, claim_unit, assumed, chosen}
use Rattle.law_obligations.specs.Times.{is_member, if_there, families_read, families_of_part, families_at_once, is_unit, families_assumed, families_of_unit, first_families, next_families, same_time}
use Rattle.law_obligations.proofs.ReadsWithin.{reads_within, part_within, either}
use Rattle.graph_search.specs.Walks.{Walk, here, step}
use Rattle.law_use_times.specs.Found.{nodes_of, IsFound}
use Rattle.law_use_times.proofs.Lists.{Contains-Has}
use Rattle.law_use_times.proofs.Turns.{reached_with_one_less}

module _ (fs : List Family) where
  abbrev below : ℕ → Type 0
  below x = x < length fs

  there_within : (family k : ℕ) (of : Option Family) → slice_get fs family ≡ of → Has (if_there family of) k → below k
  there_within family k None e h = elim h [ ]
  there_within family k (Some f) e h = elim (Has-uncons h) [
    | inl i ↦ let l = slice_get_within fs family f e in omega (arith, l, i)
    | inr n ↦ elim n [ ]
  ]

  families_within : (e : FlatExpr) (k : ℕ) → Has (families_read fs e) k → below k
  families_within e k h = reads_within (λ over. named (number 0) ∷ []) (λ family indexes b. if_there family (slice_get fs family)) below
      (λ family indexes b y q. there_within family y (slice_get fs family) refl q) e [] k h

  family_part : (p : DefBody) (k : ℕ) → Has (families_of_part fs p) k → below k
  family_part p k h = part_within (λ over. named (number 0) ∷ []) (λ family indexes b. if_there family (slice_get fs family)) below
      (λ family indexes b y q. there_within family y (slice_get fs family) refl q) (λ over. named (number 0) ∷ []) (λ left b. true) p [] k h

  pub once_within : (od : Option Def) (k : ℕ) → Has (families_at_once fs od) k → below k
  once_within None k h = elim h [ ]
  once_within (Some def) k h = either (families_of_part fs def.init) (families_of_part fs def.comb) h (family_part def.init k) (family_part def.comb k)

module _ (o : Outline) where
  abbrev fs : List Family
  fs = o.design.families

  -- families are such numbers
  pub family_node : (unit : FlatUnit) (k : ℕ) → k < length fs → k < nodes_of o.design unit
  family_node (claim_of claim) k l = l
  family_node (map_of def) k l = at (nat_lt def.family (length fs)) refl
    where
      at : (b : Bool) → nat_lt def.family (length fs) ≡ b → k < (if b then length fs else def.family + 1)
      at true e = l
      at false e = grind (arith, nat_tests)

  own_node : (def : Def) → def.family < nodes_of o.design (map_of def)
  own_node def = at (nat_lt def.family (length fs)) refl
    where
      at : (b : Bool) → nat_lt def.family (length fs) ≡ b → def.family < (if b then length fs else def.family + 1)
      at true e = grind (arith, nat_tests)
      at false e = omega arith

  -- what the unit does not say of itself are families
  unit_within : (unit : FlatUnit) (k : ℕ) → Has (families_of_unit o unit) k → k < nodes_of o.design unit
  unit_within (claim_of claim) k h = family_node (claim_of claim) k (families_within fs claim.body k h)
  unit_within (map_of def) k h = elim (Has-uncons h) [
    | inl i ↦ subst (λ z. z < nodes_of o.design (map_of def)) (sym i) (own_node def)
    | inr n ↦ family_node (map_of def) k (once_within fs (Some def) k n)
  ]

  assumed_in : (u : ℕ) (used : Assumed) (b : Bool) (k : ℕ) → Has (if b then [] else flat_map (λ claim. families_read fs claim.body) (option_to_list (assumed o used))) k → k < length fs
  assumed_in u used true k h = elim h [ ]
  assumed_in u used false k h = let r = Has-from_flat_map (λ claim. families_read fs claim.body) (option_to_list (assumed o used)) h in families_within fs r.0.body k r.2

  -- the first families are the unit's own and others that are there
  first_cases : {P : Type 0} (u : ℕ) (entry : Entry) (k : ℕ) → Has (first_families o u entry) k → (Has (families_of_unit o (unit_in o.design entry.unit)) k → P) → (k < length fs → P) → P
  first_cases u entry k h of_unit of_family = either (families_of_unit o (unit_in o.design entry.unit) ++ flat_map (λ g. families_read fs g.expr) entry.leaf.guards) (flat_map (families_assumed o u) entry.choice.claims) h
      (λ q. either (families_of_unit o (unit_in o.design entry.unit)) (flat_map (λ g. families_read fs g.expr) entry.leaf.guards) q of_unit
      (λ q. let r = Has-from_flat_map (λ g. families_read fs g.expr) entry.leaf.guards q in of_family (families_within fs r.0.expr k r.2)))
      (λ q. let r = Has-from_flat_map (families_assumed o u) entry.choice.claims q in of_family (assumed_in u r.0 (r.0.early || is_unit u (claim_unit o r.0.claim)) k r.2))

  pub first_within : (u : ℕ) (entry : Entry) (k : ℕ) → Has (first_families o u entry) k → k < nodes_of o.design (unit_in o.design entry.unit)
  first_within u entry k h = first_cases u entry k h (unit_within (unit_in o.design entry.unit) k) (family_node (unit_in o.design entry.unit) k)

  -- the family of a map
  abbrev own_of : FlatUnit → ℕ
  own_of (map_of def) = def.family
  own_of (claim_of claim) = 0

  unit_cases : (unit : FlatUnit) (k : ℕ) → Has (families_of_unit o unit) k → (k ≡ own_of unit) ⊎ (k < length fs)
  unit_cases (claim_of claim) k h = inr (families_within fs claim.body k h)
  unit_cases (map_of def) k h = elim (Has-uncons h) [ inl i ↦ inl i | inr n ↦ inr (once_within fs (Some def) k n) ]

  module _ (u : ℕ) (entry : Entry) where
    abbrev next : ℕ → List ℕ
    next = next_families o entry

    abbrev from : List ℕ
    from = first_families o u entry

    abbrev set : List ℕ
    set = same_time o u entry

    -- all that may be reached
    abbrev every : List ℕ
    every = own_of (unit_in o.design entry.unit) ∷ numbers_from 0 (length fs)

    numbered : (k : ℕ) → k < length fs → Has every k
    numbered k l = later (Has-numbers 0 (length fs) k (omega arith) (omega (arith, l)))

    begins_within : (k : ℕ) → Has from k → Has every k
    begins_within k h = first_cases u entry k h
        (λ q. elim (unit_cases (unit_in o.design entry.unit) k q) [ inl e ↦ subst (λ z. Has (z ∷ numbers_from 0 (length fs)) k) e first | inr l ↦ numbered k l ]) (numbered k)

    least : IsLeast next from set
    least = reached_with_one_less nat_eq nat_eq-is nat_eq-itself next every from begins_within
        (λ x y h k. numbered y (once_within fs (chosen o entry.choice.picks x) y k)) (length fs) (ap suc (length-numbers 0 (length fs)))

    module _ (marks : List Bool) (found : IsFound next from marks) where
      member_is : (x : ℕ) → is_member set x ≡ true → Has set x
      member_is x e = let r = any-some (nat_eq x) set e in subst (Has set) (sym (nat_eq-is x r.0 r.2)) r.1

      along : {q x : ℕ} → Walk next q x → Has set q → Has set x
      along here h = h
      along (step {y = y} c w) h = along w (least.goes_on _ y h (Contains-Has _ y c))

      to_set : (x : ℕ) → slice_index_or marks x false ≡ true → is_member set x ≡ true
      to_set x m = let r = found.led x m in any-found (nat_eq x) (along r.2 (least.begins r.0 r.1)) (nat_eq-itself x)

      from_set : (x : ℕ) → is_member set x ≡ true → slice_index_or marks x false ≡ true
      from_set x e = least.is_least (λ y. slice_index_or marks y false) found.begins found.goes_on x (member_is x e)

      pub marks_set : (x : ℕ) → slice_index_or marks x false ≡ is_member set x
      marks_set x = same_tests (slice_index_or marks x false) (is_member set x) (to_set x) (from_set x)
