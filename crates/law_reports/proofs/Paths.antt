-- Paths, rings and induction over the lists of a case are those of its problem.
use Rattle.std.proofs.Common.{◌≡◌, ℕ, zero, suc, ◌+◌, ◌<◌, ◌≤◌, List, [], ◌∷◌, ◌++◌, length, Bool, true, false, ◌&&◌, refl, sym, ap, subst, ◌∙◌, inl, inr, ◌⊎◌, Option, Some, None, arith}
use Rattle.std.proofs.lemmas.Bool.{cases_Bool}
use Rattle.law_lists.proofs.Booleans.{and_both, left_of, right_of}
use Rattle.law_lists.proofs.Options.{some_is}
use Rattle.bdd_ops.specs.Functions.{Function}
use Rattle.smv_rings.specs.Lists.{State, at}
use Rattle.smv_rings.specs.Paths.{Starts, Steps, Ends, InRing, IsViolating, IsInductive}
use Rattle.smv_rings.proofs.PathLaws.{violates_of}
use Rattle.smv_rings.proofs.Rings.{inductive_safe}
use Rattle.law_obligations.specs.Sets.{Has, first, later}
use Rattle.law_obligations.specs.May.{AbsState}
use Rattle.law_obligations.specs.Pictures.{IsAbsState}
use Rattle.law_obligations.specs.Circular.{always, is_violating}
use Rattle.law_obligations.specs.Obligations.{obligation}
use Rattle.law_obligations.proofs.Members.{Has-cases}
use Rattle.law_obligations.specs.Readings.{PosedCase, IsCase, are_values, reading}
use Rattle.law_obligations.specs.CasePaths.{AreAbsStates, IsViolatingPath, HasNone, IsShortest, last_of, states_from, IsInRing, IsInvariant}
use Rattle.law_obligations.proofs.ReadBack.{reading_is_state, state_is_read}
use Rattle.law_obligations.proofs.Listed.{before_at, Violating, to_list, from_list, at_time, each_time, length_states, Has_states, states_of_list, last_more, length_more, always_more}
use Rattle.law_reports.specs.CaseLists.{current, case_lists}
use Rattle.law_reports.specs.ListLaws.{readings}
use Rattle.law_reports.proofs.Means.{current_both, first_to, first_from, before_first_to, before_first_from, broken_first_is, step_to, step_from, before_step_to, before_step_from, broken_step_is}

module _ (c : PosedCase) (is : IsCase c) where
  abbrev now_met : Option AbsState → AbsState → Bool
  now_met old now = (obligation c.problem).now old now

  abbrev before_met : Option AbsState → AbsState → Bool
  before_met old now = (obligation c.problem).before old now

  abbrev all_met : Option AbsState → AbsState → Bool
  all_met old now = now_met old now && before_met old now

  abbrev broken_at : Option AbsState → AbsState → Bool
  broken_at old now = (obligation c.problem).broken old now

  read : State → AbsState
  read s = reading c s

  -- ---- violating paths

  read_path : (k : ℕ) (path : ℕ → State) → IsViolating (case_lists c) k path → Violating (obligation c.problem) k (λ i. reading c (path i))
  read_path k path v = record { now = now; before = before; broken = broken k refl }
    where
      now : (i : ℕ) → i ≤ k → now_met (before_at (λ i. reading c (path i)) i) (reading c (path i)) ≡ true
      now zero le = (first_to c is (path 0) v.starts).1
      now (suc i) le = (step_to c is (path i) (path (suc i)) (v.steps i le)).1

      before : (i : ℕ) → i < k → before_met (before_at (λ i. reading c (path i)) i) (reading c (path i)) ≡ true
      before zero lt = before_first_to c is (path 0) (v.starts_before (omega arith))
      before (suc i) lt = before_step_to c is (path i) (path (suc i)) (v.steps_before i (omega arith))

      broken : (j : ℕ) → k ≡ j → broken_at (before_at (λ i. reading c (path i)) j) (reading c (path j)) ≡ true
      broken zero e = sym (broken_first_is c is (path 0)) ∙ v.broken_first e
      broken (suc j) e = sym (broken_step_is c is (path j) (path (suc j))) ∙ v.broken_step j (sym e)

  write_path : (k : ℕ) (path : ℕ → State) → ((i : ℕ) → are_values c (path i) ≡ true) → Violating (obligation c.problem) k (λ i. reading c (path i)) → IsViolating (case_lists c) k path
  write_path k path values v = record {
    starts = first_from c is (path 0) (values 0) (v.now 0 (omega arith));
    starts_before = λ le. before_first_from c is (path 0) (v.before 0 (omega arith));
    steps = λ i le. step_from c is (path i) (path (suc i)) (values (suc i)) (v.now (suc i) le);
    steps_before = λ i le. before_step_from c is (path i) (path (suc i)) (v.before (suc i) (omega arith));
    broken_first = λ e. broken_first_is c is (path 0) ∙ subst (λ (j : ℕ). broken_at (before_at (λ i. reading c (path i)) j) (reading c (path j)) ≡ true) e v.broken;
    broken_step = λ i e. broken_step_is c is (path i) (path (suc i)) ∙ subst (λ (j : ℕ). broken_at (before_at (λ i. reading c (path i)) j) (reading c (path j)) ≡ true) (sym e) v.broken;
  }

  read_states : (path : ℕ → State) (i k : ℕ) → AreAbsStates c.problem (states_from (λ j. reading c (path j)) i k)
  read_states path i k a h =
      let r = Has_states (λ j. reading c (path j)) i k a h in
      subst (IsAbsState c.problem.world c.problem.kept) (sym r.2) (reading_is_state c is (path r.0))

  pub paths_read : (k : ℕ) (path : ℕ → State) → IsViolating (case_lists c) k path → IsViolatingPath c.problem (readings c path k)
  paths_read k path v = record { are_states = read_states path 0 k; is_violating = to_list (obligation c.problem) (λ i. reading c (path i)) k (read_path k path v) }

  pub paths_written : (k : ℕ) (states : List AbsState) → length states ≡ suc k → IsViolatingPath c.problem states →
      (path : ℕ → State) × IsViolating (case_lists c) k path × (readings c path k ≡ states)
  paths_written k [] e v = absurd (omega arith)
  paths_written k (a ∷ more) e v =
      let times : ℕ → AbsState = at_time (a ∷ more) a in
      let found = λ (i : ℕ). state_is_read c is (times i) (each_time (IsAbsState c.problem.world c.problem.kept) (a ∷ more) a v.are_states (v.are_states a first) i) in
      let path : ℕ → State = λ i. (found i).0 in
      let same : (λ (i : ℕ). reading c (path i)) ≡ times = λ j i. (found i).2 j in
      let listed : states_from times 0 k ≡ a ∷ more = states_of_list (a ∷ more) a k e in
      let violating : Violating (obligation c.problem) k times = from_list (obligation c.problem) times k (ap (is_violating (obligation c.problem)) listed ∙ v.is_violating) in (
        path,
        write_path k path (λ i. (found i).1) (subst (Violating (obligation c.problem) k) (sym same) violating),
        ap (λ (f : ℕ → AbsState). states_from f 0 k) same ∙ listed,
      )

  -- ---- none, and the shortest

  pub none_is_none : ((k : ℕ) (path : ℕ → State) → IsViolating (case_lists c) k path → ⊥) → HasNone c.problem
  none_is_none none [] are = refl
  none_is_none none (a ∷ states) are = elim (cases_Bool (is_violating (obligation c.problem) (a ∷ states))) [
    | inl e ↦ let r = paths_written (length states) (a ∷ states) (omega arith) (record { are_states = are; is_violating = e }) in absurd (none (length states) r.0 r.1)
    | inr e ↦ e
  ]

  least_other : (k : ℕ) → ((j : ℕ) → j < k → (other : ℕ → State) → IsViolating (case_lists c) j other → ⊥) → (other : List AbsState) → IsViolatingPath c.problem other → suc k ≤ length other
  least_other k least [] v = absurd (false_true v.is_violating)
    where
      false_true : false ≡ true → ⊥
      false_true e = cc
  least_other k least (a ∷ more) v = elim (cases (length more) k) [
    | inl lt ↦ let r = paths_written (length more) (a ∷ more) (omega arith) v in absurd (least (length more) lt r.0 r.1)
    | inr le ↦ omega arith
  ]
    where
      cases : (m n : ℕ) → (m < n) ⊎ (n ≤ m)
      cases m n = grind arith

  pub least_is_least : (k : ℕ) (path : ℕ → State) → IsViolating (case_lists c) k path → ((j : ℕ) → j < k → (other : ℕ → State) → IsViolating (case_lists c) j other → ⊥) →
      IsShortest c.problem k (readings c path k)
  least_is_least k path v least = record {
    is_path = paths_read k path v;
    is_so_long = length_states (λ i. reading c (path i)) 0 k;
    is_least = λ other w. least_other k least other w;
  }

  -- ---- rings

  starts_to : (s : State) → Starts (case_lists c) s → (are_values c s ≡ true) × (all_met None (reading c s) ≡ true)
  starts_to s h = let now = first_to c is s h.0 in (now.0, and_both now.1 (before_first_to c is s h.1))

  starts_from : (s : State) → are_values c s ≡ true → all_met None (reading c s) ≡ true → Starts (case_lists c) s
  starts_from s values e = (
    first_from c is s values (left_of (now_met None (reading c s)) (before_met None (reading c s)) e),
    before_first_from c is s (right_of (now_met None (reading c s)) (before_met None (reading c s)) e),
  )

  steps_to : (r s : State) → Steps (case_lists c) r s → (are_values c s ≡ true) × (all_met (Some (reading c r)) (reading c s) ≡ true)
  steps_to r s h = let now = step_to c is r s h.0 in (now.0, and_both now.1 (before_step_to c is r s h.1))

  steps_from : (r s : State) → are_values c s ≡ true → all_met (Some (reading c r)) (reading c s) ≡ true → Steps (case_lists c) r s
  steps_from r s values e = (
    step_from c is r s values (left_of (now_met (Some (reading c r)) (reading c s)) (before_met (Some (reading c r)) (reading c s)) e),
    before_step_from c is r s (right_of (now_met (Some (reading c r)) (reading c s)) (before_met (Some (reading c r)) (reading c s)) e),
  )

  -- a path of k steps as a list
  record Listed (k : ℕ) (s : State) : Type 0 where
    values : are_values c s ≡ true
    path : List AbsState
    are_states : AreAbsStates c.problem path
    steps : length path ≡ suc k
    ends : last_of path ≡ Some (reading c s)
    is_met : always all_met None path ≡ true

  with_last : (xs : List AbsState) (x : AbsState) → AreAbsStates c.problem xs → IsAbsState c.problem.world c.problem.kept x → AreAbsStates c.problem (xs ++ (x ∷ []))
  with_last xs x are own a h = elim (Has-cases xs (x ∷ []) h) [ inl l ↦ are a l | inr r ↦ at_last r ]
    where
      at_last : {a : AbsState} → Has (x ∷ []) a → IsAbsState c.problem.world c.problem.kept a
      at_last first = own
      at_last (later h) = elim h [ ]

  ends_to : (k : ℕ) (s : State) → Ends (case_lists c) k s → Listed k s
  unfolding Ends
  ends_to zero s h =
      let r = starts_to s h in
      record {
        values = r.0;
        path = reading c s ∷ [];
        are_states = with_last [] (reading c s) (λ a h. elim h [ ]) (reading_is_state c is s);
        steps = refl;
        ends = refl;
        is_met = and_both r.1 refl;
      }
  ends_to (suc k) s (r, h, step) =
      let old = ends_to k r h in
      let new = steps_to r s step in
      let long = old.steps in
      let longer = length_more old.path (reading c s) in
      record {
        values = new.0;
        path = old.path ++ (reading c s ∷ []);
        are_states = with_last old.path (reading c s) old.are_states (reading_is_state c is s);
        steps = omega arith;
        ends = last_more old.path (reading c s);
        is_met = always_more all_met None old.path (reading c r) (reading c s) old.ends old.is_met new.1;
      }

  -- a path ends in every assignment whose codes are values and that is read as the same
  ends_alike : (k : ℕ) (s t : State) → Ends (case_lists c) k s → are_values c t ≡ true → reading c s ≡ reading c t → Ends (case_lists c) k t
  unfolding Ends
  ends_alike zero s t h values same = starts_from t values (subst (λ (a : AbsState). all_met None a ≡ true) same (starts_to s h).1)
  ends_alike (suc k) s t (r, h, step) values same = (r, h, steps_from r t values (subst (λ (a : AbsState). all_met (Some (reading c r)) a ≡ true) same (steps_to r s step).1))

  -- some assignment that is read as this ends a path of j steps, for some j up to k
  Reached : ℕ → AbsState → Type 0
  Reached k a = (s : State) × (j : ℕ) × (j ≤ k) × Ends (case_lists c) j s × (reading c s ≡ a)

  go_on : (k j : ℕ) (r : State) → Ends (case_lists c) j r → (old : AbsState) → reading c r ≡ old → (path : List AbsState) (a : AbsState) → AreAbsStates c.problem path → j + length path ≤ k → last_of (old ∷ path) ≡ Some a →
      always all_met (Some old) path ≡ true → Reached k a
  unfolding Ends Reached
  go_on k j r h old e [] a are le ends met = (r, j, omega arith, h, e ∙ some_is ends)
  go_on k j r h old e (x ∷ path) a are le ends met =
      let found = state_is_read c is x (are x first) in
      let one : all_met (Some old) x ≡ true = left_of (all_met (Some old) x) (always all_met (Some x) path) met in
      let step : all_met (Some (reading c r)) (reading c found.0) ≡ true =
      subst (λ (q : AbsState). all_met (Some q) (reading c found.0) ≡ true) (sym e) (subst (λ (q : AbsState). all_met (Some old) q ≡ true) (sym found.2) one) in
      go_on k (suc j) found.0 (r, h, steps_from r found.0 found.1 step) x found.2 path a (λ b k. are b (later k)) (omega arith) ends (right_of (all_met (Some old) x) (always all_met (Some x) path) met)

  starts_end : (s : State) → are_values c s ≡ true → all_met None (reading c s) ≡ true → Ends (case_lists c) 0 s
  unfolding Ends
  starts_end s values e = starts_from s values e

  ring_reached : (k : ℕ) (path : List AbsState) (a : AbsState) → AreAbsStates c.problem path → length path ≤ suc k → last_of path ≡ Some a → always all_met None path ≡ true → Reached k a
  ring_reached k [] a are le ends met = absurd (none_some ends)
    where
      none_some : {Y : Type 0} {y : Y} → None ≡ Some y → ⊥
      none_some e = cc
  ring_reached k (x ∷ path) a are le ends met =
      let found = state_is_read c is x (are x first) in
      let one : all_met None (reading c found.0) ≡ true = subst (λ (q : AbsState). all_met None q ≡ true) (sym found.2) (left_of (all_met None x) (always all_met (Some x) path) met) in
      go_on k 0 found.0 (starts_end found.0 found.1 one) x found.2 path a (λ b k. are b (later k)) (omega arith) ends (right_of (all_met None x) (always all_met (Some x) path) met)

  pub rings_to : (k : ℕ) (s : State) → InRing (case_lists c) k s → (are_values c s ≡ true) × IsInRing c.problem k (reading c s)
  unfolding InRing
  rings_to k s (j, le, h) =
      let r = ends_to j s h in
      let long = r.steps in
      (r.values, record { path = r.path; are_states = r.are_states; steps = omega arith; ends = r.ends; is_met = r.is_met })

  pub rings_from : (k : ℕ) (s : State) → are_values c s ≡ true → IsInRing c.problem k (reading c s) → InRing (case_lists c) k s
  unfolding InRing Reached
  rings_from k s values ring =
      let r = ring_reached k ring.path (reading c s) ring.are_states ring.steps ring.ends ring.is_met in
      (r.1, r.2, ends_alike r.1 r.0 s r.3 values r.4)

  -- ---- induction

  pub induction_to : (set : Function) → IsInductive (case_lists c) set → IsInvariant c (λ s. set (at s))
  induction_to set i = record {
    starts = λ s values now before. i.starts s (starts_from s values (and_both now before));
    closed = λ s t h values now before. i.closed s t h (steps_from s t values (and_both now before));
    safe_first = λ s values now broken. i.safe_first s (first_from c is s values now) (broken_first_is c is s ∙ broken);
    safe_step = λ s t h values now broken. i.safe_step s t h (step_from c is s t values now) (broken_step_is c is s t ∙ broken);
  }

  pub induction_from : (set : Function) → IsInvariant c (λ s. set (at s)) → IsInductive (case_lists c) set
  induction_from set i = record {
    starts = λ s h. let now = first_to c is s h.0 in i.starts s now.0 now.1 (before_first_to c is s h.1);
    closed = λ s t h steps. let now = step_to c is s t steps.0 in i.closed s t h now.0 now.1 (before_step_to c is s t steps.1);
    safe_first = λ s h broken. let now = first_to c is s h in i.safe_first s now.0 now.1 (sym (broken_first_is c is s) ∙ broken);
    safe_step = λ s t h step broken. let now = step_to c is s t step in i.safe_step s t h now.0 now.1 (sym (broken_step_is c is s t) ∙ broken);
  }

  module _ (set : State → Bool) (i : IsInvariant c set) where
    abbrev of_current : Function
    of_current a = set (current a)

    at_current : (s : State) → set (current (at s)) ≡ set s
    at_current s = ap set (current_both s s)

    same_set : (λ (s : State). of_current (at s)) ≡ set
    same_set = λ j s. at_current s j

    inductive : IsInductive (case_lists c) of_current
    inductive = induction_from of_current (subst (IsInvariant c) (sym same_set) i)

    pub invariants_hold : HasNone c.problem
    invariants_hold = none_is_none (λ k path v. inductive_safe (case_lists c) of_current inductive k (path k) (violates_of (case_lists c) k path v))
