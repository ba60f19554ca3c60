-- What the lists of a case say of the states that an assignment is read as.
use Rattle.std.proofs.Common.{◌≡◌, ℕ, ◌+◌, ◌*◌, List, [], ◌∷◌, ◌++◌, map, Bool, true, ◌&&◌, not, refl, sym, ap, subst, ◌∙◌, inl, inr, Option, Some, None, arith, filter}
use Rattle.std.specs.List.{list_all, flat_map}
use Rattle.std.proofs.lemmas.Bool.{cases_Bool}
use Rattle.law_lists.proofs.Booleans.{and_both, left_of, right_of}
use Rattle.bdd_ops.specs.Functions.{Function}
use Rattle.smv_rings.specs.Lists.{Lists, State, both, at, all_of}
use Rattle.smv_rings.proofs.Image.{both_even, both_odd}
use Rattle.law_obligations.specs.Sets.{Has, first, later}
use Rattle.law_obligations.specs.May.{AbsState}
use Rattle.law_obligations.specs.Obligations.{Demanded, defined, holds, is_met, obligation}
use Rattle.law_obligations.proofs.Members.{Has-cases, Has-left, Has-right, Has-map, Has-from_map, Has-flat_map, all-each, all-holds}
use Rattle.law_obligations.proofs.OneOfEach.{Has-from_flat_map}
use Rattle.law_obligations.specs.Cones.{AbsElement, element, same_element}
use Rattle.law_obligations.proofs.Lookups.{Has-filter, Has-from_filter}
use Rattle.law_obligations.proofs.ConeFacts.{same_element-itself}
use Rattle.law_obligations.specs.Readings.{PosedCase, IsCase, Slot, is_value, slots, are_values, reading}
use Rattle.law_reports.specs.CaseLists.{current, next, defines, is_claim, those_of, moves, moving_first, met_first, met_step, element_first, element_step, claims, before_in_step, case_lists}
use Rattle.law_obligations.proofs.ReadBack.{slot_of}
use Rattle.law_reports.proofs.Below.{in_slots}

-- ---- the bits of a step

pub current_both : (r s : State) → current (both r s) ≡ r
current_both r s = λ i b. at_each b i
  where
    at_each : (b : ℕ) → both r s (2 * b) ≡ r b
    at_each b = both_even r s (2 * b) (omega arith) ∙ ap r (omega arith)

pub next_both : (r s : State) → next (both r s) ≡ s
next_both r s = λ i b. at_each b i
  where
    at_each : (b : ℕ) → both r s (2 * b + 1) ≡ s b
    at_each b = both_odd r s (2 * b + 1) (omega arith) ∙ ap s (omega arith)

-- ---- lists of functions

of_each : (fs : List Function) (a : ℕ → Bool) (f : Function) → all_of fs a ≡ true → Has fs f → f a ≡ true
of_each [] a f e h = elim h [ ]
of_each (g ∷ fs) a _ e first = left_of (g a) (all_of fs a) e
of_each (g ∷ fs) a f e (later h) = of_each fs a f (right_of (g a) (all_of fs a) e) h

each_holds : (fs : List Function) (a : ℕ → Bool) → ((f : Function) → Has fs f → f a ≡ true) → all_of fs a ≡ true
each_holds [] a each = refl
each_holds (f ∷ fs) a each = and_both (each f first) (each_holds fs a (λ g h. each g (later h)))

module _ (c : PosedCase) (is : IsCase c) where
  slots_in : (demands : List Demanded) (slot : Slot) → Has (slots c) slot → Has (moving_first demands (slots c)) slot
  slots_in demands slot h = elim (cases_Bool (moves demands slot)) [
    | inl e ↦ Has-left (filter (λ slot. not (moves demands slot)) (slots c)) (Has-filter (moves demands) h e)
    | inr e ↦ Has-right (filter (moves demands) (slots c)) (Has-filter (λ slot. not (moves demands slot)) h (rw e refl))
  ]

  -- functions of elements and of claims that say of a state and the demands of now what those of a case say
  module _ (of_slot : Slot → Function) (of_demand : Demanded → Function) (ss : List Slot) (a : ℕ → Bool) (s : State) (met : Demanded → Bool)
      (there : (slot : Slot) → Has ss slot → Has (slots c) slot) (back : (slot : Slot) → Has (slots c) slot → Has ss slot)
      (slot_is : (slot : Slot) → of_slot slot a ≡ (is_value c.problem.world s slot && list_all met (those_of c.problem.now slot.element)))
      (demand_is : (demand : Demanded) → of_demand demand a ≡ met demand) where
    abbrev fs : List Function
    fs = map of_slot ss ++ map of_demand (claims c c.problem.now)

    of_one : all_of fs a ≡ true → (slot : Slot) → Has (slots c) slot → (is_value c.problem.world s slot && list_all met (those_of c.problem.now slot.element)) ≡ true
    of_one e slot h = sym (slot_is slot) ∙ of_each fs a (of_slot slot) e (Has-left (map of_demand (claims c c.problem.now)) (Has-map of_slot (back slot h)))

    of_claim : all_of fs a ≡ true → (demand : Demanded) → Has (claims c c.problem.now) demand → met demand ≡ true
    of_claim e demand h = sym (demand_is demand) ∙ of_each fs a (of_demand demand) e (Has-right (map of_slot ss) (Has-map of_demand h))

    now_to : all_of fs a ≡ true → (are_values c s ≡ true) × (list_all met c.problem.now ≡ true)
    unfolding are_values
    now_to e = (
      all-holds (is_value c.problem.world s) (slots c) (λ slot h. left_of (is_value c.problem.world s slot) (list_all met (those_of c.problem.now slot.element)) (of_one e slot h)),
      all-holds met c.problem.now (λ demand h. at_demand demand h),
    )
      where
        at_demand : (demand : Demanded) → Has c.problem.now demand → met demand ≡ true
        at_demand (defined def indexes) h =
            let r = slot_of c.problem.world 0 c.elements (element def.family indexes) (is.now_is_kept def indexes h) in
            all-each met (right_of (is_value c.problem.world s r.0) (list_all met (those_of c.problem.now r.0.element)) (of_one e r.0 r.1))
            (Has-filter (defines r.0.element) h (subst (λ (x : AbsElement). same_element x (element def.family indexes) ≡ true) (sym r.2) (same_element-itself (element def.family indexes))))
        at_demand (holds body b) h = of_claim e (holds body b) (Has-filter is_claim h refl)

    now_from : are_values c s ≡ true → list_all met c.problem.now ≡ true → all_of fs a ≡ true
    unfolding are_values
    now_from values all = each_holds fs a (λ f h. elim (Has-cases (map of_slot ss) (map of_demand (claims c c.problem.now)) h) [
      | inl l ↦
          let r = Has-from_map of_slot ss l in
          let slot = r.0 in
          subst (λ (g : Function). g a ≡ true) (sym r.2) (slot_is slot
          ∙ and_both (all-each (is_value c.problem.world s) values (there slot r.1))
          (all-holds met (those_of c.problem.now slot.element) (λ demand k. all-each met all (Has-from_filter (defines slot.element) c.problem.now k).0)))
      | inr k ↦
          let r = Has-from_map of_demand (claims c c.problem.now) k in
          subst (λ (g : Function). g a ≡ true) (sym r.2) (demand_is r.0 ∙ all-each met all (Has-from_filter is_claim c.problem.now r.1).0)
    ])

  module _ (of_demand : Demanded → Function) (demands ds : List Demanded) (a : ℕ → Bool) (met : Demanded → Bool)
      (there : (demand : Demanded) → Has ds demand → Has demands demand) (back : (demand : Demanded) → Has demands demand → Has ds demand)
      (demand_is : (demand : Demanded) → of_demand demand a ≡ met demand) where
    before_to : all_of (map of_demand ds) a ≡ true → list_all met demands ≡ true
    before_to e = all-holds met demands (λ demand h. sym (demand_is demand) ∙ of_each (map of_demand ds) a (of_demand demand) e (Has-map of_demand (back demand h)))

    before_from : list_all met demands ≡ true → all_of (map of_demand ds) a ≡ true
    before_from all = each_holds (map of_demand ds) a (λ f h.
        let r = Has-from_map of_demand ds h in
        subst (λ (g : Function). g a ≡ true) (sym r.2) (demand_is r.0 ∙ all-each met all (there r.0 r.1)))

  -- the demands of before, those of elements that move first
  in_before : (demand : Demanded) → Has (before_in_step c) demand → Has c.problem.before demand
  in_before demand h = elim (Has-cases (flat_map (λ slot. those_of c.problem.before slot.element) (moving_first c.problem.before (slots c))) (claims c c.problem.before) h) [
    | inl l ↦ let r = Has-from_flat_map (λ (slot : Slot). those_of c.problem.before slot.element) (moving_first c.problem.before (slots c)) l in (Has-from_filter (defines r.0.element) c.problem.before r.2).0
    | inr k ↦ (Has-from_filter is_claim c.problem.before k).0
  ]

  before_in : (demand : Demanded) → Has c.problem.before demand → Has (before_in_step c) demand
  before_in (defined def indexes) h =
      let r = slot_of c.problem.world 0 c.elements (element def.family indexes) (is.before_is_kept def indexes h) in
      Has-left (claims c c.problem.before) (Has-flat_map (λ (slot : Slot). those_of c.problem.before slot.element) (slots_in c.problem.before r.0 r.1)
      (Has-filter (defines r.0.element) h (subst (λ (x : AbsElement). same_element x (element def.family indexes) ≡ true) (sym r.2) (same_element-itself (element def.family indexes)))))
  before_in (holds body b) h = Has-right (flat_map (λ slot. those_of c.problem.before slot.element) (moving_first c.problem.before (slots c))) (Has-filter is_claim h refl)

  -- ---- at time 0

  abbrev l : Lists
  l = case_lists c

  abbrev now_met : Option AbsState → AbsState → Bool
  now_met old now = (obligation c.problem).now old now

  abbrev before_met : Option AbsState → AbsState → Bool
  before_met old now = (obligation c.problem).before old now

  abbrev broken_at : Option AbsState → AbsState → Bool
  broken_at old now = (obligation c.problem).broken old now

  pub first_to : (s : State) → all_of (case_lists c).now_first (at s) ≡ true → (are_values c s ≡ true) × (now_met None (reading c s) ≡ true)
  unfolding case_lists
  first_to s e =
      let r = now_to (element_first c) (met_first c) (slots c) (at s) (current (at s)) (is_met c.problem None (reading c (current (at s)))) (λ slot h. h) (λ slot h. h) (λ slot. refl) (λ demand. refl) e in
      let same = current_both s s in
      (ap (are_values c) (sym same) ∙ r.0, ap (λ x. now_met None (reading c x)) (sym same) ∙ r.1)

  pub first_from : (s : State) → are_values c s ≡ true → now_met None (reading c s) ≡ true → all_of (case_lists c).now_first (at s) ≡ true
  unfolding case_lists
  first_from s values met =
      let same = current_both s s in
      now_from (element_first c) (met_first c) (slots c) (at s) (current (at s)) (is_met c.problem None (reading c (current (at s)))) (λ slot h. h) (λ slot h. h) (λ slot. refl) (λ demand. refl)
      (ap (are_values c) same ∙ values) (ap (λ x. now_met None (reading c x)) same ∙ met)

  pub before_first_to : (s : State) → all_of (case_lists c).before_first (at s) ≡ true → before_met None (reading c s) ≡ true
  unfolding case_lists
  before_first_to s e = ap (λ x. before_met None (reading c x)) (sym (current_both s s))
      ∙ before_to (met_first c) c.problem.before c.problem.before (at s) (is_met c.problem None (reading c (current (at s)))) (λ demand h. h) (λ demand h. h) (λ demand. refl) e

  pub before_first_from : (s : State) → before_met None (reading c s) ≡ true → all_of (case_lists c).before_first (at s) ≡ true
  unfolding case_lists
  before_first_from s e =
      before_from (met_first c) c.problem.before c.problem.before (at s) (is_met c.problem None (reading c (current (at s)))) (λ demand h. h) (λ demand h. h) (λ demand. refl)
      (ap (λ x. before_met None (reading c x)) (current_both s s) ∙ e)

  pub broken_first_is : (s : State) → (case_lists c).broken_first (at s) ≡ broken_at None (reading c s)
  unfolding case_lists
  broken_first_is s = ap (λ x. broken_at None (reading c x)) (current_both s s)

  -- ---- at a step

  pub step_to : (r s : State) → all_of (case_lists c).now_step (both r s) ≡ true → (are_values c s ≡ true) × (now_met (Some (reading c r)) (reading c s) ≡ true)
  unfolding case_lists
  step_to r s e =
      let q = now_to (element_step c) (met_step c) (moving_first c.problem.now (slots c)) (both r s) (next (both r s)) (is_met c.problem (Some (reading c (current (both r s)))) (reading c (next (both r s))))
      (in_slots c c.problem.now) (slots_in c.problem.now) (λ slot. refl) (λ demand. refl) e in (
        ap (are_values c) (sym (next_both r s)) ∙ q.0,
        ap (λ x. now_met (Some (reading c r)) (reading c x)) (sym (next_both r s)) ∙ (ap (λ x. now_met (Some (reading c x)) (reading c (next (both r s)))) (sym (current_both r s)) ∙ q.1),
      )

  pub step_from : (r s : State) → are_values c s ≡ true → now_met (Some (reading c r)) (reading c s) ≡ true → all_of (case_lists c).now_step (both r s) ≡ true
  unfolding case_lists
  step_from r s values met =
      now_from (element_step c) (met_step c) (moving_first c.problem.now (slots c)) (both r s) (next (both r s)) (is_met c.problem (Some (reading c (current (both r s)))) (reading c (next (both r s))))
      (in_slots c c.problem.now) (slots_in c.problem.now) (λ slot. refl) (λ demand. refl)
      (ap (are_values c) (next_both r s) ∙ values)
      (ap (λ x. now_met (Some (reading c x)) (reading c (next (both r s)))) (current_both r s) ∙ (ap (λ x. now_met (Some (reading c r)) (reading c x)) (next_both r s) ∙ met))

  pub before_step_to : (r s : State) → all_of (case_lists c).before_step (both r s) ≡ true → before_met (Some (reading c r)) (reading c s) ≡ true
  unfolding case_lists
  before_step_to r s e =
      ap (λ x. before_met (Some (reading c r)) (reading c x)) (sym (next_both r s)) ∙ (ap (λ x. before_met (Some (reading c x)) (reading c (next (both r s)))) (sym (current_both r s))
      ∙ before_to (met_step c) c.problem.before (before_in_step c) (both r s) (is_met c.problem (Some (reading c (current (both r s)))) (reading c (next (both r s)))) in_before before_in (λ demand. refl) e)

  pub before_step_from : (r s : State) → before_met (Some (reading c r)) (reading c s) ≡ true → all_of (case_lists c).before_step (both r s) ≡ true
  unfolding case_lists
  before_step_from r s e =
      before_from (met_step c) c.problem.before (before_in_step c) (both r s) (is_met c.problem (Some (reading c (current (both r s)))) (reading c (next (both r s)))) in_before before_in (λ demand. refl)
      (ap (λ x. before_met (Some (reading c x)) (reading c (next (both r s)))) (current_both r s) ∙ (ap (λ x. before_met (Some (reading c r)) (reading c x)) (next_both r s) ∙ e))

  pub broken_step_is : (r s : State) → (case_lists c).broken_step (both r s) ≡ broken_at (Some (reading c r)) (reading c s)
  unfolding case_lists
  broken_step_is r s = ap (λ x. broken_at (Some (reading c x)) (reading c (next (both r s)))) (current_both r s) ∙ ap (λ x. broken_at (Some (reading c r)) (reading c x)) (next_both r s)
