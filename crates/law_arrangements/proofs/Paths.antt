-- Violating paths over an arrangement are those of the problem.
use Rattle.std.proofs.Common.{◌≡◌, ℕ, zero, suc, ◌<◌, ◌≤◌, List, [], ◌∷◌, ◌++◌, length, true, false, refl, sym, ap, subst, ◌∙◌, inl, inr, ◌⊎◌, Option, Some, None, arith}
use Rattle.std.specs.List.{list_all, list_any}
use Rattle.std.proofs.lemmas.Bool.{cases_Bool}
use Rattle.bdd_ops.specs.Functions.{Function}
use Rattle.smv_rings.specs.Lists.{State}
use Rattle.smv_rings.specs.Paths.{IsViolating, IsInductive}
use Rattle.smv_rings.proofs.PathLaws.{violates_of}
use Rattle.smv_rings.proofs.Rings.{inductive_safe}
use Rattle.law_obligations.specs.Sets.{Has, first}
use Rattle.law_obligations.specs.May.{AbsState}
use Rattle.law_obligations.specs.Circular.{is_violating}
use Rattle.law_obligations.specs.Obligations.{Demanded, is_met, obligation}
use Rattle.law_obligations.specs.Cones.{AbsElement, same_element}
use Rattle.law_obligations.specs.Bits.{Bits}
use Rattle.law_obligations.specs.Readings.{PosedCase, IsCase, Slot, is_value, slots, are_values, reading}
use Rattle.law_obligations.specs.CasePaths.{AreAbsStates, IsViolatingPath, HasNone, IsShortest, states_from}
use Rattle.law_obligations.proofs.Listed.{before_at, Violating, to_list, from_list, at_time, each_time, length_states, Has_states, states_of_list}
use Rattle.law_obligations.proofs.Members.{Has-left, Has-right, any-some, all-each, all-holds}
use Rattle.law_obligations.proofs.Lookups.{Has-filter, Has-from_filter}
use Rattle.law_obligations.proofs.ReadBack.{reading_is_state, state_is_read}
use Rattle.law_reports.specs.CaseLists.{defines, those_of, case_lists}
use Rattle.law_reports.proofs.Paths.{paths_read, paths_written}
use Rattle.law_arrangements.specs.Arrangements.{Arrangement, AgreeBeside, AgreeBefore, spread, IsState, IsBefore, CanGoOn, IsArrangement, view, settled}
use Rattle.law_arrangements.specs.ArrangedLists.{lists_over}
use Rattle.law_arrangements.specs.Laws.{shown_at, shown}
use Rattle.law_arrangements.proofs.Views.{none_right, none_both, each_right, each_as, Apart, Works, IsWorked, worked, meets, idle_works, AreFound, all_found, all_met, follows, gathered, value_gathered, reading_gathered}
use Rattle.law_arrangements.proofs.Meets.{IsOther, first_to, first_from, before_first_to, before_first_from, broken_first_is, step_to, step_from, before_step_to, before_step_from, broken_step_is}

module _ (c : PosedCase) (is : IsCase c) (o : Arrangement) (ok : IsArrangement c o) where
  abbrev apart_from : List AbsElement → AbsElement → Type 0
  apart_from behind x = list_any (same_element x) behind ≡ false

  pub idle_apart : Apart o.idle
  idle_apart = each_right apart_from o.determined o.idle ok.are_apart

  pub det_in : (x : AbsElement) → Has o.determined x → Has c.elements x
  det_in x h = ok.are_elements x (Has-left o.idle h)

  pub idle_in : (x : AbsElement) → Has o.idle x → Has c.elements x
  idle_in x h = ok.are_elements x (Has-right o.determined h)

  -- ---- what an assignment is read as

  pub view_found : (s : State) → AreFound c is [] o.determined (reading c (spread o.order s)) (view c o s)
  view_found s = all_found c is o.determined o.idle ok.are_determined ok.are_apart det_in (reading c (spread o.order s)) (reading_is_state c is (spread o.order s))

  -- at each time the demands of now of determined elements are met
  pub det_met : (old : Option AbsState) (s : State) (x : AbsElement) → Has o.determined x → list_all (is_met c.problem old (view c o s)) (those_of c.problem.now x) ≡ true
  det_met old s x h = let w = view_found s in all_met c is o.determined o.idle ok.are_determined old (view c o s) w.is_state (λ y g. w.each y (inr g)) x h

  -- ---- a path of the problem, over the arrangement

  module _ (k : ℕ) (times : ℕ → AbsState) (states : (i : ℕ) → IsState c (times i)) (v : Violating (obligation c.problem) k times) where
    found : (i : ℕ) → (t : Bits) × (are_values c t ≡ true) × (reading c t ≡ times i)
    found i = state_is_read c is (times i) (states i)

    abbrev path : ℕ → State
    path i = gathered c is o.order (found i).0

    abbrev view_at : ℕ → AbsState
    view_at i = view c o (path i)

    now_at : (i : ℕ) → i ≤ k → (d : Demanded) → Has c.problem.now d → is_met c.problem (before_at times i) (times i) d ≡ true
    now_at i le d h = all-each (is_met c.problem (before_at times i) (times i)) (v.now i le) h

    before_time : (i : ℕ) → i < k → (d : Demanded) → Has c.problem.before d → is_met c.problem (before_at times i) (times i) d ≡ true
    before_time i lt d h = all-each (is_met c.problem (before_at times i) (times i)) (v.before i lt) h

    agrees : (i : ℕ) → i ≤ k → AgreeBeside o.idle (view_at i) (times i)
    agrees i le =
        let t = found i in
        follows c is o.determined o.idle ok.are_determined ok.are_apart det_in (before_at times i) (times i) (reading c (spread o.order (path i))) (states i) (reading_is_state c is (spread o.order (path i)))
        (λ x h. all-holds (is_met c.problem (before_at times i) (times i)) (those_of c.problem.now x) (λ d g. now_at i le d (Has-from_filter (defines x) c.problem.now g).0))
        (subst (AgreeBeside (o.determined ++ o.idle) (reading c (spread o.order (path i)))) t.2 (reading_gathered c is o ok.have_places t.0))

    agrees_before : (i : ℕ) → i ≤ k → AgreeBefore o.idle (before_at view_at i) (before_at times i)
    agrees_before zero le = tt
    agrees_before (suc i) le = agrees i (omega arith)

    have_values : (i : ℕ) (slot : Slot) → Has (slots c) slot → list_any (same_element slot.element) (o.determined ++ o.idle) ≡ false → is_value c.problem.world (spread o.order (path i)) slot ≡ true
    unfolding are_values
    have_values i slot h e = value_gathered c is o ok.have_places (found i).0 slot h e ∙ all-each (is_value c.problem.world (found i).0) (found i).1 h

    same_met : (i : ℕ) → i ≤ k → (d : Demanded) → Has (c.problem.now ++ c.problem.before) d → IsOther o.idle d → is_met c.problem (before_at view_at i) (view_at i) d ≡ is_met c.problem (before_at times i) (times i) d
    same_met i le d h other = ok.are_unread.demands d h other (before_at view_at i) (before_at times i) (view_at i) (times i) (agrees_before i le) (agrees i le)

    now_here : (i : ℕ) → i ≤ k → (d : Demanded) → Has c.problem.now d → IsOther (o.determined ++ o.idle) d → is_met c.problem (before_at view_at i) (view_at i) d ≡ true
    now_here i le d h other = same_met i le d (Has-left c.problem.before h) (none_right (λ x. defines x d) o.determined o.idle other) ∙ now_at i le d h

    before_here : (i : ℕ) → i < k → (d : Demanded) → Has c.problem.before d → IsOther o.idle d → is_met c.problem (before_at view_at i) (view_at i) d ≡ true
    before_here i lt d h other = same_met i (omega arith) d (Has-right c.problem.now h) other ∙ before_time i lt d h

    broken_here : (j : ℕ) → k ≡ j → (obligation c.problem).broken (before_at view_at j) (view_at j) ≡ true
    broken_here j e =
        ok.are_unread.broken (before_at view_at j) (before_at times j) (view_at j) (times j) (agrees_before j (omega arith)) (agrees j (omega arith))
        ∙ subst (λ (m : ℕ). (obligation c.problem).broken (before_at times m) (times m) ≡ true) e v.broken

    is_found : IsViolating (lists_over c o) k path
    is_found = record {
      starts = first_from c is o (path 0) (have_values 0) (now_here 0 (omega arith));
      starts_before = λ le. before_first_from c is o (path 0) (before_here 0 (omega arith));
      steps = λ i le. step_from c is o (path i) (path (suc i)) (have_values (suc i)) (now_here (suc i) le);
      steps_before = λ i le. before_step_from c is o (path i) (path (suc i)) (before_here (suc i) (omega arith));
      broken_first = λ e. broken_first_is c is o (path 0) ∙ broken_here 0 e;
      broken_step = λ i e. broken_step_is c is o (path i) (path (suc i)) ∙ broken_here (suc i) (sym e);
    }

  pub paths_found : (k : ℕ) (states : List AbsState) → length states ≡ suc k → IsViolatingPath c.problem states → (path : ℕ → State) × IsViolating (lists_over c o) k path
  paths_found k [] e v = absurd (omega arith)
  paths_found k (a ∷ more) e v =
      let times : ℕ → AbsState = at_time (a ∷ more) a in
      let states : (i : ℕ) → IsState c (times i) = each_time (IsState c) (a ∷ more) a v.are_states (v.are_states a first) in
      let listed : states_from times 0 k ≡ a ∷ more = states_of_list (a ∷ more) a k e in
      let violating : Violating (obligation c.problem) k times = from_list (obligation c.problem) times k (ap (is_violating (obligation c.problem)) listed ∙ v.is_violating) in
      (path k times states violating, is_found k times states violating)

  -- ---- a path over the arrangement, as one of the problem

  module _ (k : ℕ) (path : ℕ → State) (v : IsViolating (lists_over c o) k path) where
    abbrev seen_at : ℕ → AbsState
    seen_at i = view c o (path i)

    abbrev full : ℕ → AbsState
    full = shown_at c o path

    settles : (old : Option AbsState) → IsBefore c old → (i : ℕ) → IsWorked c is (c.problem.now ++ c.problem.before) old o.idle (seen_at i) (settled c o old (seen_at i))
    settles old before i =
        worked c is (c.problem.now ++ c.problem.before) old o.idle (each_as (CanGoOn c) (Works c is (c.problem.now ++ c.problem.before) old) (idle_works c is old before) o.idle ok.go_on)
        idle_apart idle_in (seen_at i) (view_found (path i)).is_state

    full_worked : (i : ℕ) → IsWorked c is (c.problem.now ++ c.problem.before) (before_at full i) o.idle (seen_at i) (full i)
    full_worked zero = settles None tt 0
    full_worked (suc i) = settles (Some (full i)) (full_worked i).is_state (suc i)

    full_before : (i : ℕ) → AgreeBefore o.idle (before_at full i) (before_at seen_at i)
    full_before zero = tt
    full_before (suc i) = (full_worked i).agrees

    full_met : (i : ℕ) (d : Demanded) → Has (c.problem.now ++ c.problem.before) d → IsOther o.idle d → is_met c.problem (before_at full i) (full i) d ≡ is_met c.problem (before_at seen_at i) (seen_at i) d
    full_met i d h other = ok.are_unread.demands d h other (before_at full i) (before_at seen_at i) (full i) (seen_at i) (full_before i) (full_worked i).agrees

    -- the demands of idle elements are met
    idle_met : (i : ℕ) (d : Demanded) → Has (c.problem.now ++ c.problem.before) d → list_any (λ x. defines x d) o.idle ≡ true → is_met c.problem (before_at full i) (full i) d ≡ true
    idle_met i d h e =
        let r = any-some (λ x. defines x d) o.idle e in
        let met = meets c is (c.problem.now ++ c.problem.before) (before_at full i) (full i) r.0 ((full_worked i).each r.0 r.1) in
        all-each (is_met c.problem (before_at full i) (full i)) met (Has-filter (defines r.0) h r.2)

    listed_now : (i : ℕ) → i ≤ k → (d : Demanded) → Has c.problem.now d → IsOther (o.determined ++ o.idle) d → is_met c.problem (before_at seen_at i) (seen_at i) d ≡ true
    listed_now zero le d h other = first_to c is o (path 0) v.starts d h other
    listed_now (suc i) le d h other = step_to c is o (path i) (path (suc i)) (v.steps i le) d h other

    listed_before : (i : ℕ) → i < k → (d : Demanded) → Has c.problem.before d → IsOther o.idle d → is_met c.problem (before_at seen_at i) (seen_at i) d ≡ true
    listed_before zero lt d h other = before_first_to c is o (path 0) (v.starts_before (omega arith)) d h other
    listed_before (suc i) lt d h other = before_step_to c is o (path i) (path (suc i)) (v.steps_before i (omega arith)) d h other

    seen_now : (i : ℕ) → i ≤ k → (d : Demanded) → Has c.problem.now d → IsOther o.idle d → is_met c.problem (before_at seen_at i) (seen_at i) d ≡ true
    seen_now i le d h other = elim (cases_Bool (list_any (λ x. defines x d) o.determined)) [
      | inl e ↦ let r = any-some (λ x. defines x d) o.determined e in all-each (is_met c.problem (before_at seen_at i) (seen_at i)) (det_met (before_at seen_at i) (path i) r.0 r.1) (Has-filter (defines r.0) h r.2)
      | inr e ↦ listed_now i le d h (none_both (λ x. defines x d) o.determined o.idle e other)
    ]

    one_now : (i : ℕ) → i ≤ k → (d : Demanded) → Has c.problem.now d → is_met c.problem (before_at full i) (full i) d ≡ true
    one_now i le d h = elim (cases_Bool (list_any (λ x. defines x d) o.idle)) [
      | inl e ↦ idle_met i d (Has-left c.problem.before h) e
      | inr e ↦ full_met i d (Has-left c.problem.before h) e ∙ seen_now i le d h e
    ]

    one_before : (i : ℕ) → i < k → (d : Demanded) → Has c.problem.before d → is_met c.problem (before_at full i) (full i) d ≡ true
    one_before i lt d h = elim (cases_Bool (list_any (λ x. defines x d) o.idle)) [
      | inl e ↦ idle_met i d (Has-right c.problem.now h) e
      | inr e ↦ full_met i d (Has-right c.problem.now h) e ∙ listed_before i lt d h e
    ]

    broken : (j : ℕ) → k ≡ j → (obligation c.problem).broken (before_at seen_at j) (seen_at j) ≡ true
    broken zero e = sym (broken_first_is c is o (path 0)) ∙ v.broken_first e
    broken (suc j) e = sym (broken_step_is c is o (path j) (path (suc j))) ∙ v.broken_step j (sym e)

    violating : Violating (obligation c.problem) k full
    violating = record {
      now = λ i le. all-holds (is_met c.problem (before_at full i) (full i)) c.problem.now (λ d h. one_now i le d h);
      before = λ i lt. all-holds (is_met c.problem (before_at full i) (full i)) c.problem.before (λ d h. one_before i lt d h);
      broken = ok.are_unread.broken (before_at full k) (before_at seen_at k) (full k) (seen_at k) (full_before k) (full_worked k).agrees ∙ broken k refl;
    }

    are_states : AreAbsStates c.problem (shown c o path k)
    are_states a h = let r = Has_states full 0 k a h in subst (IsState c) (sym r.2) (full_worked r.0).is_state

    pub is_shown : IsViolatingPath c.problem (shown c o path k)
    is_shown = record { are_states = are_states; is_violating = to_list (obligation c.problem) full k violating }

  -- ---- so both have paths of the same lengths

  pub lengths_to : (k : ℕ) → ((path : ℕ → State) × IsViolating (lists_over c o) k path) → (path : ℕ → State) × IsViolating (case_lists c) k path
  lengths_to k (path, v) = let r = paths_written c is k (shown c o path k) (length_states (shown_at c o path) 0 k) (is_shown k path v) in (r.0, r.1)

  pub lengths_from : (k : ℕ) → ((path : ℕ → State) × IsViolating (case_lists c) k path) → (path : ℕ → State) × IsViolating (lists_over c o) k path
  lengths_from k (path, v) = paths_found k (states_from (λ i. reading c (path i)) 0 k) (length_states (λ i. reading c (path i)) 0 k) (paths_read c is k path v)

  pub none_is_none : ((k : ℕ) (path : ℕ → State) → IsViolating (lists_over c o) k path → ⊥) → HasNone c.problem
  none_is_none none [] are = refl
  none_is_none none (a ∷ states) are = elim (cases_Bool (is_violating (obligation c.problem) (a ∷ states))) [
    | inl e ↦ let r = paths_found (length states) (a ∷ states) (omega arith) (record { are_states = are; is_violating = e }) in absurd (none (length states) r.0 r.1)
    | inr e ↦ e
  ]

  least_other : (k : ℕ) → ((j : ℕ) → j < k → (other : ℕ → State) → IsViolating (lists_over c o) j other → ⊥) → (other : List AbsState) → IsViolatingPath c.problem other → suc k ≤ length other
  least_other k least [] v = absurd (false_true v.is_violating)
    where
      false_true : false ≡ true → ⊥
      false_true e = cc
  least_other k least (a ∷ more) v = elim (cases (length more) k) [
    | inl lt ↦ let r = paths_found (length more) (a ∷ more) (omega arith) v in absurd (least (length more) lt r.0 r.1)
    | inr le ↦ omega arith
  ]
    where
      cases : (m n : ℕ) → (m < n) ⊎ (n ≤ m)
      cases m n = grind arith

  pub least_is_least : (k : ℕ) (path : ℕ → State) → IsViolating (lists_over c o) k path → ((j : ℕ) → j < k → (other : ℕ → State) → IsViolating (lists_over c o) j other → ⊥) → IsShortest c.problem k (shown c o path k)
  least_is_least k path v least = record {
    is_path = is_shown k path v;
    is_so_long = length_states (shown_at c o path) 0 k;
    is_least = λ other w. least_other k least other w;
  }

  pub induction_holds : (set : Function) → IsInductive (lists_over c o) set → HasNone c.problem
  induction_holds set i = none_is_none (λ k path v. inductive_safe (lists_over c o) set i k (path k) (violates_of (lists_over c o) k path v))
