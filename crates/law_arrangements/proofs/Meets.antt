-- What the lists over an arrangement say of the states that an assignment is read as.
use Rattle.std.proofs.Common.{◌≡◌, ℕ, List, [], ◌∷◌, ◌++◌, map, Bool, true, false, ◌&&◌, not, refl, sym, ap, subst, ◌∙◌, inl, inr, Some, None, filter}
use Rattle.std.specs.List.{list_all, list_any, flat_map}
use Rattle.std.proofs.lemmas.Bool.{cases_Bool}
use Rattle.law_lists.proofs.Booleans.{and_both, left_of, right_of}
use Rattle.bdd_ops.specs.Functions.{Function}
use Rattle.smv_rings.specs.Lists.{State, both, at, all_of}
use Rattle.law_obligations.specs.Sets.{Has, first, later}
use Rattle.law_obligations.specs.Obligations.{Demanded, defined, holds, is_met, obligation}
use Rattle.law_obligations.specs.Cones.{AbsElement, element, same_element}
use Rattle.law_obligations.specs.Readings.{PosedCase, IsCase, Slot, is_value, slots}
use Rattle.law_obligations.proofs.Members.{Has-cases, Has-left, Has-right, Has-map, Has-from_map, Has-flat_map, all-each, all-holds}
use Rattle.law_obligations.proofs.OneOfEach.{Has-from_flat_map}
use Rattle.law_obligations.proofs.Lookups.{Has-filter, Has-from_filter}
use Rattle.law_obligations.proofs.ConeFacts.{same_element-itself, same_element-family, same_element-indexes}
use Rattle.law_obligations.proofs.ReadBack.{slot_of}
use Rattle.law_reports.specs.CaseLists.{current, next, defines, is_claim, those_of, moves, moving_first, claims, before_in_step}
use Rattle.law_reports.proofs.Means.{current_both, next_both}
use Rattle.law_arrangements.specs.Arrangements.{Arrangement, spread, view}
use Rattle.law_arrangements.specs.ArrangedLists.{has_bits, is_asked, met_first, met_step, element_first, element_step, slots_over, lists_over}
use Rattle.law_arrangements.proofs.Views.{none_flip, none_never}

-- ---- lists of functions

of_each : (fs : List Function) (a : ℕ → Bool) (f : Function) → all_of fs a ≡ true → Has fs f → f a ≡ true
of_each [] a f e h = elim h [ ]
of_each (g ∷ fs) a _ e first = left_of (g a) (all_of fs a) e
of_each (g ∷ fs) a f e (later h) = of_each fs a f (right_of (g a) (all_of fs a) e) h

each_holds : (fs : List Function) (a : ℕ → Bool) → ((f : Function) → Has fs f → f a ≡ true) → all_of fs a ≡ true
each_holds [] a each = refl
each_holds (f ∷ fs) a each = and_both (each f first) (each_holds fs a (λ g h. each g (later h)))

not_true : (b : Bool) → not b ≡ true → b ≡ false
not_true true e = sym e
not_true false e = refl

pub moved_to : (demands : List Demanded) (ss : List Slot) (slot : Slot) → Has (moving_first demands ss) slot → Has ss slot
moved_to demands ss slot h = elim (Has-cases (filter (moves demands) ss) (filter (λ slot. not (moves demands slot)) ss) h) [
  | inl l ↦ (Has-from_filter (moves demands) ss l).0
  | inr r ↦ (Has-from_filter (λ slot. not (moves demands slot)) ss r).0
]

moved_from : (demands : List Demanded) (ss : List Slot) (slot : Slot) → Has ss slot → Has (moving_first demands ss) slot
moved_from demands ss slot h = elim (cases_Bool (moves demands slot)) [
  | inl e ↦ Has-left (filter (λ slot. not (moves demands slot)) ss) (Has-filter (moves demands) h e)
  | inr e ↦ Has-right (filter (moves demands) ss) (Has-filter (λ slot. not (moves demands slot)) h (rw e refl))
]

-- ---- demands that define none of these elements

abbrev pub IsOther : List AbsElement → Demanded → Type 0
IsOther xs d = list_any (λ x. defines x d) xs ≡ false

other_of : (ws : List AbsElement) (x : AbsElement) → list_any (same_element x) ws ≡ false → (d : Demanded) → defines x d ≡ true → IsOther ws d
other_of ws x has (defined def indexes) e =
    none_flip (element def.family indexes) ws
    ∙ (ap (λ (k : ℕ). list_any (same_element (element k indexes)) ws) (sym (same_element-family x (element def.family indexes) e))
    ∙ (ap (λ q. list_any (same_element (element x.family q)) ws) (sym (same_element-indexes x (element def.family indexes) e)) ∙ has))
other_of ws x has (holds body b) e = absurd (cc)

claim_other : (ws : List AbsElement) (d : Demanded) → is_claim d ≡ true → IsOther ws d
claim_other ws (defined def indexes) e = absurd (cc)
claim_other ws (holds body b) e = none_never ws

module _ (c : PosedCase) (is : IsCase c) (o : Arrangement) where
  abbrev ws : List AbsElement
  ws = o.determined ++ o.idle

  -- functions of elements with bits and of claims
  module _ (of_slot : Slot → Function) (of_demand : Demanded → Function) (ss : List Slot) (a : ℕ → Bool) (s : State) (met : Demanded → Bool)
      (there : (slot : Slot) → Has ss slot → Has (slots_over c o) slot) (back : (slot : Slot) → Has (slots_over c o) slot → Has ss slot)
      (slot_is : (slot : Slot) → of_slot slot a ≡ (is_value c.problem.world s slot && list_all met (those_of c.problem.now slot.element)))
      (demand_is : (demand : Demanded) → of_demand demand a ≡ met demand) where
    abbrev fs : List Function
    fs = map of_slot ss ++ map of_demand (claims c c.problem.now)

    now_to : all_of fs a ≡ true → (d : Demanded) → Has c.problem.now d → IsOther ws d → met d ≡ true
    now_to e (defined def indexes) h other =
        let x : AbsElement = element def.family indexes in
        let r = slot_of c.problem.world 0 c.elements x (is.now_is_kept def indexes h) in
        let slot = r.0 in
        let has : list_any (same_element slot.element) ws ≡ false = ap (λ (y : AbsElement). list_any (same_element y) ws) r.2 ∙ (sym (none_flip x ws) ∙ other) in
        let over : Has (slots_over c o) slot = Has-filter (has_bits o) r.1 (rw has refl) in
        let holds = sym (slot_is slot) ∙ of_each fs a (of_slot slot) e (Has-left (map of_demand (claims c c.problem.now)) (Has-map of_slot (back slot over))) in
        all-each met (right_of (is_value c.problem.world s slot) (list_all met (those_of c.problem.now slot.element)) holds)
        (Has-filter (defines slot.element) h (subst (λ (y : AbsElement). same_element y x ≡ true) (sym r.2) (same_element-itself x)))
    now_to e (holds body b) h other =
        sym (demand_is (holds body b)) ∙ of_each fs a (of_demand (holds body b)) e (Has-right (map of_slot ss) (Has-map of_demand (Has-filter is_claim h refl)))

    values_to : all_of fs a ≡ true → (slot : Slot) → Has (slots c) slot → list_any (same_element slot.element) ws ≡ false → is_value c.problem.world s slot ≡ true
    values_to e slot h has =
        left_of (is_value c.problem.world s slot) (list_all met (those_of c.problem.now slot.element))
        (sym (slot_is slot) ∙ of_each fs a (of_slot slot) e (Has-left (map of_demand (claims c c.problem.now)) (Has-map of_slot (back slot (Has-filter (has_bits o) h (rw has refl))))))

    now_from : ((slot : Slot) → Has (slots c) slot → list_any (same_element slot.element) ws ≡ false → is_value c.problem.world s slot ≡ true) →
        ((d : Demanded) → Has c.problem.now d → IsOther ws d → met d ≡ true) → all_of fs a ≡ true
    now_from values all = each_holds fs a (λ f h. elim (Has-cases (map of_slot ss) (map of_demand (claims c c.problem.now)) h) [
      | inl l ↦
          let r = Has-from_map of_slot ss l in
          let slot = r.0 in
          let q = Has-from_filter (has_bits o) (slots c) (there slot r.1) in
          let has : list_any (same_element slot.element) ws ≡ false = not_true (list_any (same_element slot.element) ws) q.1 in
          subst (λ (g : Function). g a ≡ true) (sym r.2) (slot_is slot ∙ and_both (values slot q.0 has) (all-holds met (those_of c.problem.now slot.element) (λ d k.
          let p = Has-from_filter (defines slot.element) c.problem.now k in
          all d p.0 (other_of ws slot.element has d p.1))))
      | inr k ↦
          let r = Has-from_map of_demand (claims c c.problem.now) k in
          let q = Has-from_filter is_claim c.problem.now r.1 in
          subst (λ (g : Function). g a ≡ true) (sym r.2) (demand_is r.0 ∙ all r.0 q.0 (claim_other ws r.0 q.1))
    ])

  module _ (of_demand : Demanded → Function) (demands ds : List Demanded) (a : ℕ → Bool) (met : Demanded → Bool)
      (there : (demand : Demanded) → Has ds demand → Has demands demand) (back : (demand : Demanded) → Has demands demand → Has ds demand)
      (demand_is : (demand : Demanded) → of_demand demand a ≡ met demand) where
    before_to : all_of (map of_demand (filter (is_asked o) ds)) a ≡ true → (d : Demanded) → Has demands d → IsOther o.idle d → met d ≡ true
    before_to e d h other = sym (demand_is d) ∙ of_each (map of_demand (filter (is_asked o) ds)) a (of_demand d) e (Has-map of_demand (Has-filter (is_asked o) (back d h) (rw other refl)))

    before_from : ((d : Demanded) → Has demands d → IsOther o.idle d → met d ≡ true) → all_of (map of_demand (filter (is_asked o) ds)) a ≡ true
    before_from all = each_holds (map of_demand (filter (is_asked o) ds)) a (λ f h.
        let r = Has-from_map of_demand (filter (is_asked o) ds) h in
        let q = Has-from_filter (is_asked o) ds r.1 in
        subst (λ (g : Function). g a ≡ true) (sym r.2) (demand_is r.0 ∙ all r.0 (there r.0 q.0) (not_true (list_any (λ x. defines x r.0) o.idle) q.1)))

  in_before : (demand : Demanded) → Has (before_in_step c) demand → Has c.problem.before demand
  in_before demand h = elim (Has-cases (flat_map (λ slot. those_of c.problem.before slot.element) (moving_first c.problem.before (slots c))) (claims c c.problem.before) h) [
    | inl l ↦ let r = Has-from_flat_map (λ (slot : Slot). those_of c.problem.before slot.element) (moving_first c.problem.before (slots c)) l in (Has-from_filter (defines r.0.element) c.problem.before r.2).0
    | inr k ↦ (Has-from_filter is_claim c.problem.before k).0
  ]

  before_in : (demand : Demanded) → Has c.problem.before demand → Has (before_in_step c) demand
  before_in (defined def indexes) h =
      let r = slot_of c.problem.world 0 c.elements (element def.family indexes) (is.before_is_kept def indexes h) in
      Has-left (claims c c.problem.before) (Has-flat_map (λ (slot : Slot). those_of c.problem.before slot.element) (moved_from c.problem.before (slots c) r.0 r.1)
      (Has-filter (defines r.0.element) h (subst (λ (x : AbsElement). same_element x (element def.family indexes) ≡ true) (sym r.2) (same_element-itself (element def.family indexes)))))
  before_in (holds body b) h = Has-right (flat_map (λ slot. those_of c.problem.before slot.element) (moving_first c.problem.before (slots c))) (Has-filter is_claim h refl)

  abbrev pub HaveValues : State → Type 0
  HaveValues s = (slot : Slot) → Has (slots c) slot → list_any (same_element slot.element) ws ≡ false → is_value c.problem.world (spread o.order s) slot ≡ true

  -- ---- at time 0

  pub first_to : (s : State) → all_of (lists_over c o).now_first (at s) ≡ true → (d : Demanded) → Has c.problem.now d → IsOther ws d → is_met c.problem None (view c o s) d ≡ true
  unfolding lists_over
  first_to s e d h other =
      ap (λ (x : State). is_met c.problem None (view c o x) d) (sym (current_both s s))
      ∙ now_to (element_first c o) (met_first c o) (slots_over c o) (at s) (spread o.order (current (at s))) (is_met c.problem None (view c o (current (at s)))) (λ slot h. h) (λ slot h. h) (λ slot. refl) (λ demand. refl) e d h other

  pub first_values : (s : State) → all_of (lists_over c o).now_first (at s) ≡ true → HaveValues s
  unfolding lists_over
  first_values s e slot h has =
      ap (λ (x : State). is_value c.problem.world (spread o.order x) slot) (sym (current_both s s))
      ∙ values_to (element_first c o) (met_first c o) (slots_over c o) (at s) (spread o.order (current (at s))) (is_met c.problem None (view c o (current (at s)))) (λ slot h. h) (λ slot h. h) (λ slot. refl) (λ demand. refl) e slot h has

  pub first_from : (s : State) → HaveValues s → ((d : Demanded) → Has c.problem.now d → IsOther ws d → is_met c.problem None (view c o s) d ≡ true) → all_of (lists_over c o).now_first (at s) ≡ true
  unfolding lists_over
  first_from s values all =
      now_from (element_first c o) (met_first c o) (slots_over c o) (at s) (spread o.order (current (at s))) (is_met c.problem None (view c o (current (at s)))) (λ slot h. h) (λ slot h. h) (λ slot. refl) (λ demand. refl)
      (λ slot h e. ap (λ (x : State). is_value c.problem.world (spread o.order x) slot) (current_both s s) ∙ values slot h e)
      (λ d h other. ap (λ (x : State). is_met c.problem None (view c o x) d) (current_both s s) ∙ all d h other)

  pub before_first_to : (s : State) → all_of (lists_over c o).before_first (at s) ≡ true → (d : Demanded) → Has c.problem.before d → IsOther o.idle d → is_met c.problem None (view c o s) d ≡ true
  unfolding lists_over
  before_first_to s e d h other =
      ap (λ (x : State). is_met c.problem None (view c o x) d) (sym (current_both s s))
      ∙ before_to (met_first c o) c.problem.before c.problem.before (at s) (is_met c.problem None (view c o (current (at s)))) (λ demand h. h) (λ demand h. h) (λ demand. refl) e d h other

  pub before_first_from : (s : State) → ((d : Demanded) → Has c.problem.before d → IsOther o.idle d → is_met c.problem None (view c o s) d ≡ true) → all_of (lists_over c o).before_first (at s) ≡ true
  unfolding lists_over
  before_first_from s all =
      before_from (met_first c o) c.problem.before c.problem.before (at s) (is_met c.problem None (view c o (current (at s)))) (λ demand h. h) (λ demand h. h) (λ demand. refl)
      (λ d h other. ap (λ (x : State). is_met c.problem None (view c o x) d) (current_both s s) ∙ all d h other)

  pub broken_first_is : (s : State) → (lists_over c o).broken_first (at s) ≡ (obligation c.problem).broken None (view c o s)
  unfolding lists_over
  broken_first_is s = ap (λ (x : State). (obligation c.problem).broken None (view c o x)) (current_both s s)

  -- ---- at a step

  step_is : (r s : State) (d : Demanded) → is_met c.problem (Some (view c o (current (both r s)))) (view c o (next (both r s))) d ≡ is_met c.problem (Some (view c o r)) (view c o s) d
  step_is r s d = ap (λ (x : State). is_met c.problem (Some (view c o x)) (view c o (next (both r s))) d) (current_both r s) ∙ ap (λ (x : State). is_met c.problem (Some (view c o r)) (view c o x) d) (next_both r s)

  pub step_to : (r s : State) → all_of (lists_over c o).now_step (both r s) ≡ true → (d : Demanded) → Has c.problem.now d → IsOther ws d → is_met c.problem (Some (view c o r)) (view c o s) d ≡ true
  unfolding lists_over
  step_to r s e d h other =
      sym (step_is r s d)
      ∙ now_to (element_step c o) (met_step c o) (moving_first c.problem.now (slots_over c o)) (both r s) (spread o.order (next (both r s))) (is_met c.problem (Some (view c o (current (both r s)))) (view c o (next (both r s))))
      (moved_to c.problem.now (slots_over c o)) (moved_from c.problem.now (slots_over c o)) (λ slot. refl) (λ demand. refl) e d h other

  pub step_values : (r s : State) → all_of (lists_over c o).now_step (both r s) ≡ true → HaveValues s
  unfolding lists_over
  step_values r s e slot h has =
      ap (λ (x : State). is_value c.problem.world (spread o.order x) slot) (sym (next_both r s))
      ∙ values_to (element_step c o) (met_step c o) (moving_first c.problem.now (slots_over c o)) (both r s) (spread o.order (next (both r s))) (is_met c.problem (Some (view c o (current (both r s)))) (view c o (next (both r s))))
      (moved_to c.problem.now (slots_over c o)) (moved_from c.problem.now (slots_over c o)) (λ slot. refl) (λ demand. refl) e slot h has

  pub step_from : (r s : State) → HaveValues s → ((d : Demanded) → Has c.problem.now d → IsOther ws d → is_met c.problem (Some (view c o r)) (view c o s) d ≡ true) → all_of (lists_over c o).now_step (both r s) ≡ true
  unfolding lists_over
  step_from r s values all =
      now_from (element_step c o) (met_step c o) (moving_first c.problem.now (slots_over c o)) (both r s) (spread o.order (next (both r s))) (is_met c.problem (Some (view c o (current (both r s)))) (view c o (next (both r s))))
      (moved_to c.problem.now (slots_over c o)) (moved_from c.problem.now (slots_over c o)) (λ slot. refl) (λ demand. refl)
      (λ slot h e. ap (λ (x : State). is_value c.problem.world (spread o.order x) slot) (next_both r s) ∙ values slot h e)
      (λ d h other. step_is r s d ∙ all d h other)

  pub before_step_to : (r s : State) → all_of (lists_over c o).before_step (both r s) ≡ true → (d : Demanded) → Has c.problem.before d → IsOther o.idle d → is_met c.problem (Some (view c o r)) (view c o s) d ≡ true
  unfolding lists_over
  before_step_to r s e d h other =
      sym (step_is r s d)
      ∙ before_to (met_step c o) c.problem.before (before_in_step c) (both r s) (is_met c.problem (Some (view c o (current (both r s)))) (view c o (next (both r s)))) in_before before_in (λ demand. refl) e d h other

  pub before_step_from : (r s : State) → ((d : Demanded) → Has c.problem.before d → IsOther o.idle d → is_met c.problem (Some (view c o r)) (view c o s) d ≡ true) → all_of (lists_over c o).before_step (both r s) ≡ true
  unfolding lists_over
  before_step_from r s all =
      before_from (met_step c o) c.problem.before (before_in_step c) (both r s) (is_met c.problem (Some (view c o (current (both r s)))) (view c o (next (both r s)))) in_before before_in (λ demand. refl)
      (λ d h other. step_is r s d ∙ all d h other)

  pub broken_step_is : (r s : State) → (lists_over c o).broken_step (both r s) ≡ (obligation c.problem).broken (Some (view c o r)) (view c o s)
  unfolding lists_over
  broken_step_is r s =
      ap (λ (x : State). (obligation c.problem).broken (Some (view c o x)) (view c o (next (both r s)))) (current_both r s)
      ∙ ap (λ (x : State). (obligation c.problem).broken (Some (view c o r)) (view c o x)) (next_both r s)
