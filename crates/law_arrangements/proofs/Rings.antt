-- Rings over an arrangement are those of the problem.
use Rattle.std.proofs.Common.{◌≡◌, ℕ, zero, suc, ◌+◌, ◌≤◌, List, [], ◌∷◌, ◌++◌, length, Bool, true, ◌&&◌, refl, sym, subst, ◌∙◌, inl, inr, Option, Some, None, arith}
use Rattle.std.specs.List.{list_any}
use Rattle.std.proofs.lemmas.Bool.{cases_Bool}
use Rattle.law_lists.proofs.Booleans.{and_both, left_of, right_of}
use Rattle.law_lists.proofs.Options.{some_is}
use Rattle.smv_rings.specs.Lists.{State}
use Rattle.smv_rings.specs.Paths.{Ends, InRing}
use Rattle.law_obligations.specs.Sets.{Has, first, later}
use Rattle.law_obligations.specs.May.{AbsState}
use Rattle.law_obligations.specs.Circular.{always}
use Rattle.law_obligations.specs.Obligations.{Demanded, is_met}
use Rattle.law_obligations.specs.Bits.{Bits}
use Rattle.law_obligations.specs.Readings.{PosedCase, IsCase, are_values, reading}
use Rattle.law_obligations.specs.CasePaths.{AreAbsStates, last_of, IsInRing}
use Rattle.law_obligations.proofs.Listed.{last_more, length_more, always_more}
use Rattle.law_obligations.proofs.Lookups.{Has-filter}
use Rattle.law_obligations.proofs.Members.{Has-cases, Has-left, Has-right, any-some, all-each, all-holds}
use Rattle.law_obligations.proofs.ReadBack.{state_is_read}
use Rattle.law_reports.specs.CaseLists.{defines}
use Rattle.law_arrangements.specs.Arrangements.{Arrangement, AgreeBeside, AgreeBefore, IsState, IsBefore, CanGoOn, IsArrangement, view, settled}
use Rattle.law_arrangements.specs.ArrangedLists.{lists_over}
use Rattle.law_arrangements.specs.Laws.{gathered}
use Rattle.law_arrangements.proofs.Views.{none_both, none_right, each_as, Works, IsWorked, worked, meets, idle_works}
use Rattle.law_arrangements.proofs.Meets.{IsOther, HaveValues, first_to, first_values, first_from, before_first_to, before_first_from, step_to, step_values, step_from, before_step_to, before_step_from}
use Rattle.law_arrangements.proofs.Paths.{idle_apart, idle_in, view_found, det_met}
use Rattle.law_arrangements.proofs.Invariants.{seen, now_met, before_met, agrees, have_values, now_here, before_here}

module _ (c : PosedCase) (is : IsCase c) (o : Arrangement) (ok : IsArrangement c o) where
  abbrev all_met : Option AbsState → AbsState → Bool
  all_met old now = now_met c is o ok old now && before_met c is o ok old now

  -- ---- over the arrangement, and so of the problem

  -- the state that is shown, behind a state that agrees with the one that is read before it
  module _ (old prev : Option AbsState) (before : IsBefore c old) (alike : AgreeBefore o.idle old prev) (s : State)
      (now : (d : Demanded) → Has c.problem.now d → IsOther (o.determined ++ o.idle) d → is_met c.problem prev (view c o s) d ≡ true)
      (held : (d : Demanded) → Has c.problem.before d → IsOther o.idle d → is_met c.problem prev (view c o s) d ≡ true) where
    abbrev shown : AbsState
    shown = settled c o old (view c o s)

    is_settled : IsWorked c is (c.problem.now ++ c.problem.before) old o.idle (view c o s) shown
    is_settled =
        worked c is (c.problem.now ++ c.problem.before) old o.idle (each_as (CanGoOn c) (Works c is (c.problem.now ++ c.problem.before) old) (idle_works c is old before) o.idle ok.go_on)
        (idle_apart c is o ok) (idle_in c is o ok) (view c o s) (view_found c is o ok s).is_state

    same : (d : Demanded) → Has (c.problem.now ++ c.problem.before) d → IsOther o.idle d → is_met c.problem old shown d ≡ is_met c.problem prev (view c o s) d
    same d h other = ok.are_unread.demands d h other old prev shown (view c o s) alike is_settled.agrees

    idle_met : (d : Demanded) → Has (c.problem.now ++ c.problem.before) d → list_any (λ x. defines x d) o.idle ≡ true → is_met c.problem old shown d ≡ true
    idle_met d h e =
        let r = any-some (λ x. defines x d) o.idle e in
        all-each (is_met c.problem old shown) (meets c is (c.problem.now ++ c.problem.before) old shown r.0 (is_settled.each r.0 r.1)) (Has-filter (defines r.0) h r.2)

    seen_now : (d : Demanded) → Has c.problem.now d → IsOther o.idle d → is_met c.problem prev (view c o s) d ≡ true
    seen_now d h other = elim (cases_Bool (list_any (λ x. defines x d) o.determined)) [
      | inl e ↦ let r = any-some (λ x. defines x d) o.determined e in all-each (is_met c.problem prev (view c o s)) (det_met c is o ok prev s r.0 r.1) (Has-filter (defines r.0) h r.2)
      | inr e ↦ now d h (none_both (λ x. defines x d) o.determined o.idle e other)
    ]

    one_now : (d : Demanded) → Has c.problem.now d → is_met c.problem old shown d ≡ true
    one_now d h = elim (cases_Bool (list_any (λ x. defines x d) o.idle)) [
      | inl e ↦ idle_met d (Has-left c.problem.before h) e
      | inr e ↦ same d (Has-left c.problem.before h) e ∙ seen_now d h e
    ]

    one_before : (d : Demanded) → Has c.problem.before d → is_met c.problem old shown d ≡ true
    one_before d h = elim (cases_Bool (list_any (λ x. defines x d) o.idle)) [
      | inl e ↦ idle_met d (Has-right c.problem.now h) e
      | inr e ↦ same d (Has-right c.problem.now h) e ∙ held d h e
    ]

    is_all_met : all_met old shown ≡ true
    is_all_met = and_both (all-holds (is_met c.problem old shown) c.problem.now one_now) (all-holds (is_met c.problem old shown) c.problem.before one_before)

  -- a path of the problem of so many steps that ends as it is read
  record Shown (k : ℕ) (s : State) : Type 0 where
    last : AbsState
    is_state : IsState c last
    agrees : AgreeBeside o.idle last (view c o s)
    path : List AbsState
    are_states : AreAbsStates c.problem path
    steps : length path ≡ suc k
    ends : last_of path ≡ Some last
    is_met : always all_met None path ≡ true

  with_last : (xs : List AbsState) (x : AbsState) → AreAbsStates c.problem xs → IsState c x → AreAbsStates c.problem (xs ++ (x ∷ []))
  with_last xs x are own a h = elim (Has-cases xs (x ∷ []) h) [ inl l ↦ are a l | inr r ↦ at_last r ]
    where
      at_last : {a : AbsState} → Has (x ∷ []) a → IsState c a
      at_last first = own
      at_last (later h) = elim h [ ]

  ends_shown : (k : ℕ) (s : State) → Ends (lists_over c o) k s → Shown k s
  unfolding Ends
  ends_shown zero s h =
      let now = first_to c is o s h.0 in
      let held = before_first_to c is o s h.1 in
      let w = is_settled None None tt tt s now held in
      let a : AbsState = settled c o None (view c o s) in
      record {
        last = a;
        is_state = w.is_state;
        agrees = w.agrees;
        path = a ∷ [];
        are_states = with_last [] a (λ a h. elim h [ ]) w.is_state;
        steps = refl;
        ends = refl;
        is_met = and_both (is_all_met None None tt tt s now held) refl;
      }
  ends_shown (suc k) s (r, h, step) =
      let old = ends_shown k r h in
      let now = step_to c is o r s step.0 in
      let held = before_step_to c is o r s step.1 in
      let w = is_settled (Some old.last) (Some (view c o r)) old.is_state old.agrees s now held in
      let a : AbsState = settled c o (Some old.last) (view c o s) in
      let long = old.steps in
      let longer = length_more old.path a in
      record {
        last = a;
        is_state = w.is_state;
        agrees = w.agrees;
        path = old.path ++ (a ∷ []);
        are_states = with_last old.path a old.are_states w.is_state;
        steps = omega arith;
        ends = last_more old.path a;
        is_met = always_more all_met None old.path old.last a old.ends old.is_met (is_all_met (Some old.last) (Some (view c o r)) old.is_state old.agrees s now held);
      }

  pub rings_shown : (k : ℕ) (s : State) → InRing (lists_over c o) k s → (a : AbsState) × IsInRing c.problem k a × AgreeBeside o.idle (view c o s) a
  unfolding InRing
  rings_shown k s (j, le, h) =
      let r = ends_shown j s h in
      let long = r.steps in
      let ring : IsInRing c.problem k r.last = record { path = r.path; are_states = r.are_states; steps = omega arith; ends = r.ends; is_met = r.is_met } in
      (r.last, ring, λ family ps e. sym (r.agrees family ps e))

  -- ---- of the problem, and so over the arrangement

  Reached : ℕ → AbsState → Type 0
  Reached k a = (s : State) × (j : ℕ) × (j ≤ k) × Ends (lists_over c o) j s × AgreeBeside o.idle (view c o s) a

  starts : (t : Bits) → are_values c t ≡ true → all_met None (reading c t) ≡ true → Ends (lists_over c o) 0 (gathered o t)
  unfolding Ends
  starts t values met =
      let now = left_of (now_met c is o ok None (reading c t)) (before_met c is o ok None (reading c t)) met in
      let before = right_of (now_met c is o ok None (reading c t)) (before_met c is o ok None (reading c t)) met in
      let agree = agrees c is o ok None t now in (
        first_from c is o (gathered o t) (have_values c is o ok t values) (now_here c is o ok None None t tt agree now),
        before_first_from c is o (gathered o t) (before_here c is o ok None None t tt agree before),
      )

  one_more : (j : ℕ) (t u : Bits) → Ends (lists_over c o) j (gathered o t) → AgreeBeside o.idle (seen c is o ok t) (reading c t) → are_values c u ≡ true → all_met (Some (reading c t)) (reading c u) ≡ true →
      Ends (lists_over c o) (suc j) (gathered o u)
  unfolding Ends
  one_more j t u h old values met =
      let now = left_of (now_met c is o ok (Some (reading c t)) (reading c u)) (before_met c is o ok (Some (reading c t)) (reading c u)) met in
      let before = right_of (now_met c is o ok (Some (reading c t)) (reading c u)) (before_met c is o ok (Some (reading c t)) (reading c u)) met in
      let agree = agrees c is o ok (Some (reading c t)) u now in (
        gathered o t,
        h,
        (
          step_from c is o (gathered o t) (gathered o u) (have_values c is o ok u values) (now_here c is o ok (Some (reading c t)) (Some (seen c is o ok t)) u old agree now),
          before_step_from c is o (gathered o t) (gathered o u) (before_here c is o ok (Some (reading c t)) (Some (seen c is o ok t)) u old agree before),
        ),
      )

  go_on : (k j : ℕ) (t : Bits) → Ends (lists_over c o) j (gathered o t) → AgreeBeside o.idle (seen c is o ok t) (reading c t) → (path : List AbsState) (a : AbsState) → AreAbsStates c.problem path → j + length path ≤ k →
      last_of (reading c t ∷ path) ≡ Some a → always all_met (Some (reading c t)) path ≡ true → Reached k a
  unfolding Reached
  go_on k j t h agree [] a are le ends met = (gathered o t, j, omega arith, h, subst (AgreeBeside o.idle (seen c is o ok t)) (some_is ends) agree)
  go_on k j t h agree (x ∷ path) a are le ends met =
      let u = state_is_read c is x (are x first) in
      let here : all_met (Some (reading c t)) (reading c u.0) ≡ true =
      subst (λ (q : AbsState). all_met (Some (reading c t)) q ≡ true) (sym u.2) (left_of (all_met (Some (reading c t)) x) (always all_met (Some x) path) met) in
      let more : always all_met (Some (reading c u.0)) path ≡ true =
      subst (λ (q : AbsState). always all_met (Some q) path ≡ true) (sym u.2) (right_of (all_met (Some (reading c t)) x) (always all_met (Some x) path) met) in
      let last : last_of (reading c u.0 ∷ path) ≡ Some a = subst (λ (q : AbsState). last_of (q ∷ path) ≡ Some a) (sym u.2) ends in
      let now = left_of (now_met c is o ok (Some (reading c t)) (reading c u.0)) (before_met c is o ok (Some (reading c t)) (reading c u.0)) here in
      go_on k (suc j) u.0 (one_more j t u.0 h agree u.1 here) (agrees c is o ok (Some (reading c t)) u.0 now) path a (λ b g. are b (later g)) (omega arith) last more

  reached : (k : ℕ) (path : List AbsState) (a : AbsState) → AreAbsStates c.problem path → length path ≤ suc k → last_of path ≡ Some a → always all_met None path ≡ true → Reached k a
  reached k [] a are le ends met = absurd (none_some ends)
    where
      none_some : {Y : Type 0} {y : Y} → None ≡ Some y → ⊥
      none_some e = cc
  reached k (x ∷ path) a are le ends met =
      let u = state_is_read c is x (are x first) in
      let here : all_met None (reading c u.0) ≡ true = subst (λ (q : AbsState). all_met None q ≡ true) (sym u.2) (left_of (all_met None x) (always all_met (Some x) path) met) in
      let more : always all_met (Some (reading c u.0)) path ≡ true = subst (λ (q : AbsState). always all_met (Some q) path ≡ true) (sym u.2) (right_of (all_met None x) (always all_met (Some x) path) met) in
      let last : last_of (reading c u.0 ∷ path) ≡ Some a = subst (λ (q : AbsState). last_of (q ∷ path) ≡ Some a) (sym u.2) ends in
      let now = left_of (now_met c is o ok None (reading c u.0)) (before_met c is o ok None (reading c u.0)) here in
      go_on k 0 u.0 (starts u.0 u.1 here) (agrees c is o ok None u.0 now) path a (λ b g. are b (later g)) (omega arith) last more

  pub rings_found : (k : ℕ) (a : AbsState) → IsInRing c.problem k a → (s : State) × InRing (lists_over c o) k s × AgreeBeside o.idle (view c o s) a
  unfolding InRing Reached
  rings_found k a ring = let r = reached k ring.path a ring.are_states ring.steps ring.ends ring.is_met in (r.0, (r.1, r.2, r.3), r.4)

  -- ---- what is in one ring and not in another

  -- a path ends in every assignment whose codes are values and that is read as the same, but at idle elements
  ends_alike : (k : ℕ) (r s : State) → Ends (lists_over c o) k r → HaveValues c is o s → AgreeBeside o.idle (view c o s) (view c o r) → Ends (lists_over c o) k s
  unfolding Ends
  ends_alike zero r s h values agree = (
    first_from c is o s values (λ d g other.
        ok.are_unread.demands d (Has-left c.problem.before g) (none_right (λ x. defines x d) o.determined o.idle other) None None (view c o s) (view c o r) tt agree ∙ first_to c is o r h.0 d g other),
    before_first_from c is o s (λ d g other. ok.are_unread.demands d (Has-right c.problem.now g) other None None (view c o s) (view c o r) tt agree ∙ before_first_to c is o r h.1 d g other),
  )
  ends_alike (suc k) r s (q, h, step) values agree = (
    q,
    h,
    (
      step_from c is o q s values (λ d g other.
          ok.are_unread.demands d (Has-left c.problem.before g) (none_right (λ x. defines x d) o.determined o.idle other) (Some (view c o q)) (Some (view c o q)) (view c o s) (view c o r) (λ family ps e. refl) agree
          ∙ step_to c is o q r step.0 d g other),
      before_step_from c is o q s (λ d g other.
          ok.are_unread.demands d (Has-right c.problem.now g) other (Some (view c o q)) (Some (view c o q)) (view c o s) (view c o r) (λ family ps e. refl) agree ∙ before_step_to c is o q r step.1 d g other),
    ),
  )

  ends_values : (k : ℕ) (s : State) → Ends (lists_over c o) k s → HaveValues c is o s
  unfolding Ends
  ends_values zero s h = first_values c is o s h.0
  ends_values (suc k) s (r, h, step) = step_values c is o r s step.0

  pub rings_differ : (k j : ℕ) (s : State) → InRing (lists_over c o) k s → (InRing (lists_over c o) j s → ⊥) → (a : AbsState) × IsInRing c.problem k a × (IsInRing c.problem j a → ⊥)
  unfolding InRing
  rings_differ k j s (i, le, h) not_there =
      let shown = rings_shown k s (i, le, h) in
      let values = ends_values i s h in (
        shown.0,
        shown.1,
        λ ring.
            let found = rings_found j shown.0 ring in
            not_there (found.1.0, found.1.1, ends_alike found.1.0 found.0 s found.1.2 values (λ family ps e. shown.2 family ps e ∙ sym (found.2 family ps e))),
      )
