-- The lists of a case are over its bits.
use Rattle.std.proofs.Common.{◌≡◌, ℕ, ◌+◌, ◌*◌, ◌<◌, List, [], ◌∷◌, ◌++◌, map, Bool, true, false, ◌&&◌, not, sym, ap, subst, ◌∙◌, inl, inr, Some, None, arith, filter}
use Rattle.std.specs.List.{list_all}
use Rattle.bdd_store.specs.Graph.{with_at}
use Rattle.bdd_store.proofs.Walks.{with_other}
use Rattle.bdd_ops.specs.Functions.{Function}
use Rattle.smv_rings.specs.Functions.{DependsBelow}
use Rattle.smv_rings.specs.Lists.{State, AllBelow, IsCurrent, AllCurrent, IsLists}
use Rattle.law_obligations.specs.Sets.{Has, first, later}
use Rattle.law_obligations.specs.May.{AbsState}
use Rattle.law_obligations.specs.Obligations.{Demanded, is_met, obligation}
use Rattle.law_obligations.proofs.Members.{Has-cases, Has-from_map}
use Rattle.law_obligations.proofs.Lookups.{Has-from_filter}
use Rattle.law_obligations.specs.Readings.{PosedCase, Slot, is_value, slots, state_bits, reading}
use Rattle.law_reports.specs.CaseLists.{current, next, those_of, moves, moving_first, met_first, met_step, element_first, element_step, claims, before_in_step, case_lists, old_state, new_state}
use Rattle.law_obligations.proofs.ReadBack.{reading_agree, code_of_agree}

all_below : (n : ℕ) (fs : List Function) → ((f : Function) → Has fs f → DependsBelow n f) → AllBelow n fs
all_below n [] each = tt
all_below n (f ∷ fs) each = (each f first, all_below n fs (λ g h. each g (later h)))

all_current : (fs : List Function) → ((f : Function) → Has fs f → IsCurrent f) → AllCurrent fs
all_current [] each = tt
all_current (f ∷ fs) each = (each f first, all_current fs (λ g h. each g (later h)))

-- a function of the current bits alone
current_free : (b : ℕ) (a : ℕ → Bool) → current (with_at a (2 * b + 1) false) ≡ current (with_at a (2 * b + 1) true)
current_free b a = λ i k. at_each k i
  where
    at_each : (k : ℕ) → current (with_at a (2 * b + 1) false) k ≡ current (with_at a (2 * b + 1) true) k
    at_each k = with_other a (2 * b + 1) false (2 * k) (omega arith) ∙ sym (with_other a (2 * b + 1) true (2 * k) (omega arith))

is_current : (g : State → Bool) → IsCurrent (λ a. g (current a))
is_current g b a = ap g (current_free b a)

module _ (c : PosedCase) where
  abbrev Agree : (ℕ → Bool) → (ℕ → Bool) → Type 0
  Agree a d = (v : ℕ) → v < 2 * state_bits c → a v ≡ d v

  old_agree : (a d : ℕ → Bool) → Agree a d → old_state c a ≡ old_state c d
  old_agree a d same = reading_agree c (current a) (current d) (λ v lt. same (2 * v) (omega arith))

  new_agree : (a d : ℕ → Bool) → Agree a d → new_state c a ≡ new_state c d
  new_agree a d same = reading_agree c (next a) (next d) (λ v lt. same (2 * v + 1) (omega arith))

  met_first_below : (demand : Demanded) → DependsBelow (2 * state_bits c) (met_first c demand)
  met_first_below demand a d same = ap (λ (x : AbsState). is_met c.problem None x demand) (old_agree a d same)

  met_step_below : (demand : Demanded) → DependsBelow (2 * state_bits c) (met_step c demand)
  met_step_below demand a d same =
      ap (λ (x : AbsState). is_met c.problem (Some x) (new_state c a) demand) (old_agree a d same) ∙ ap (λ (x : AbsState). is_met c.problem (Some (old_state c d)) x demand) (new_agree a d same)

  element_first_below : (slot : Slot) → Has (slots c) slot → DependsBelow (2 * state_bits c) (element_first c slot)
  element_first_below slot h a d same =
      ap (λ (x : Bool). x && list_all (is_met c.problem None (old_state c a)) (those_of c.problem.now slot.element)) (code_of_agree c (current a) (current d) (λ v lt. same (2 * v) (omega arith)) slot h)
      ∙ ap (λ (x : AbsState). is_value c.problem.world (current d) slot && list_all (is_met c.problem None x) (those_of c.problem.now slot.element)) (old_agree a d same)

  element_step_below : (slot : Slot) → Has (slots c) slot → DependsBelow (2 * state_bits c) (element_step c slot)
  element_step_below slot h a d same =
      ap (λ (x : Bool). x && list_all (is_met c.problem (Some (old_state c a)) (new_state c a)) (those_of c.problem.now slot.element)) (code_of_agree c (next a) (next d) (λ v lt. same (2 * v + 1) (omega arith)) slot h)
      ∙ ap (λ (x : AbsState). is_value c.problem.world (next d) slot && list_all (is_met c.problem (Some x) (new_state c a)) (those_of c.problem.now slot.element)) (old_agree a d same)
      ∙ ap (λ (x : AbsState). is_value c.problem.world (next d) slot && list_all (is_met c.problem (Some (old_state c d)) x) (those_of c.problem.now slot.element)) (new_agree a d same)

  pub in_slots : (demands : List Demanded) (slot : Slot) → Has (moving_first demands (slots c)) slot → Has (slots c) slot
  in_slots demands slot h = elim (Has-cases (filter (moves demands) (slots c)) (filter (λ slot. not (moves demands slot)) (slots c)) h) [
    | inl l ↦ (Has-from_filter (moves demands) (slots c) l).0
    | inr r ↦ (Has-from_filter (λ slot. not (moves demands slot)) (slots c) r).0
  ]

  each_first : (P : Function → Type 0) → ((slot : Slot) → Has (slots c) slot → P (element_first c slot)) → ((demand : Demanded) → P (met_first c demand)) →
      (f : Function) → Has (map (element_first c) (slots c) ++ map (met_first c) (claims c c.problem.now)) f → P f
  each_first P of_slot of_demand f h = elim (Has-cases (map (element_first c) (slots c)) (map (met_first c) (claims c c.problem.now)) h) [
    | inl l ↦ let r = Has-from_map (element_first c) (slots c) l in subst P (sym r.2) (of_slot r.0 r.1)
    | inr k ↦ let r = Has-from_map (met_first c) (claims c c.problem.now) k in subst P (sym r.2) (of_demand r.0)
  ]

  each_step : (P : Function → Type 0) → ((slot : Slot) → Has (slots c) slot → P (element_step c slot)) → ((demand : Demanded) → P (met_step c demand)) →
      (f : Function) → Has (map (element_step c) (moving_first c.problem.now (slots c)) ++ map (met_step c) (claims c c.problem.now)) f → P f
  each_step P of_slot of_demand f h = elim (Has-cases (map (element_step c) (moving_first c.problem.now (slots c))) (map (met_step c) (claims c c.problem.now)) h) [
    | inl l ↦ let r = Has-from_map (element_step c) (moving_first c.problem.now (slots c)) l in subst P (sym r.2) (of_slot r.0 (in_slots c.problem.now r.0 r.1))
    | inr k ↦ let r = Has-from_map (met_step c) (claims c c.problem.now) k in subst P (sym r.2) (of_demand r.0)
  ]

  each_of : (P : Function → Type 0) (g : Demanded → Function) (demands : List Demanded) → ((demand : Demanded) → P (g demand)) → (f : Function) → Has (map g demands) f → P f
  each_of P g demands of_demand f h = let r = Has-from_map g demands h in subst P (sym r.2) (of_demand r.0)

  pub are_lists : IsLists (case_lists c)
  unfolding case_lists
  are_lists = record {
    now_first = (
      all_below (2 * state_bits c) (map (element_first c) (slots c) ++ map (met_first c) (claims c c.problem.now)) (each_first (DependsBelow (2 * state_bits c)) element_first_below met_first_below),
      all_current (map (element_first c) (slots c) ++ map (met_first c) (claims c c.problem.now))
          (each_first IsCurrent
          (λ slot h. is_current (λ s. is_value c.problem.world s slot && list_all (is_met c.problem None (reading c s)) (those_of c.problem.now slot.element)))
          (λ demand. is_current (λ s. is_met c.problem None (reading c s) demand))),
    );
    before_first = (
      all_below (2 * state_bits c) (map (met_first c) c.problem.before) (each_of (DependsBelow (2 * state_bits c)) (met_first c) c.problem.before met_first_below),
      all_current (map (met_first c) c.problem.before) (each_of IsCurrent (met_first c) c.problem.before (λ demand. is_current (λ s. is_met c.problem None (reading c s) demand))),
    );
    broken_first = (
      λ a d same. ap ((obligation c.problem).broken None) (old_agree a d same),
      is_current (λ s. (obligation c.problem).broken None (reading c s)),
    );
    now_step = all_below (2 * state_bits c) (map (element_step c) (moving_first c.problem.now (slots c)) ++ map (met_step c) (claims c c.problem.now)) (each_step (DependsBelow (2 * state_bits c)) element_step_below met_step_below);
    before_step = all_below (2 * state_bits c) (map (met_step c) (before_in_step c)) (each_of (DependsBelow (2 * state_bits c)) (met_step c) (before_in_step c) met_step_below);
    broken_step = λ a d same.
        ap (λ (x : AbsState). (obligation c.problem).broken (Some x) (new_state c a)) (old_agree a d same) ∙ ap (λ (x : AbsState). (obligation c.problem).broken (Some (old_state c d)) x) (new_agree a d same);
  }
