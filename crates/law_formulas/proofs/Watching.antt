-- A formula holds at each time of a run exactly where each state does what is asked of it.
use Rattle.law_lists.proofs.Booleans.{left_of, right_of, impossible}
use Rattle.std.proofs.lemmas.Bool.{cases_Bool, and_from, or_left, or_right, or_cases, not-true, not_from_false}
use Rattle.std.proofs.Common.{◌≡◌, ◌≤◌, ◌⊎◌, inl, inr, ℕ, zero, suc, List, [], ◌∷◌, Some, None, Bool, true, false, not, ◌&&◌, ◌||◌, refl, sym, ap, arith, true≢false}
use Rattle.smv_core.specs.Values.{number, constant, scalar, ordinal, Outcome, truth}
use Rattle.smv_core.specs.Outcome.{State, Scene, Bindings, outcome, is_true}
use Rattle.smv_core.specs.declared.tree.Expr.{Expr}
use Rattle.law_formulas.specs.Formulas.{Formula, now, next, when, weak, Is, IsOut, At, HoldsUnless, HoldsFrom, AlwaysHolds}
use Rattle.law_formulas.specs.Steps.{is_false, none_of, HasMarks, goes_on, is_met, Asked, stepped, AskedAlong}
use Rattle.law_formulas.specs.Laws.{WatchingIsExact}

-- ---- truth values

pub is_one : (u : Outcome) → is_true (truth u) ≡ true → u ≡ Some (number 1)
is_one None h = absurd (true≢false (sym h))
is_one (Some (number zero)) h = absurd (true≢false (sym h))
is_one (Some (number (suc zero))) h = refl
is_one (Some (number (suc (suc n)))) h = absurd (true≢false (sym h))
is_one (Some (constant a)) h = absurd (true≢false (sym h))
is_one (Some (scalar t n)) h = absurd (true≢false (sym h))
is_one (Some (ordinal t n)) h = absurd (true≢false (sym h))

pub one-is : (u : Outcome) → u ≡ Some (number 1) → is_true (truth u) ≡ true
one-is u h = ap (λ v. is_true (truth v)) h

pub is_zero : (u : Outcome) → is_false (truth u) ≡ true → u ≡ Some (number 0)
is_zero None h = absurd (true≢false (sym h))
is_zero (Some (number zero)) h = refl
is_zero (Some (number (suc zero))) h = absurd (true≢false (sym h))
is_zero (Some (number (suc (suc n)))) h = absurd (true≢false (sym h))
is_zero (Some (constant a)) h = absurd (true≢false (sym h))
is_zero (Some (scalar t n)) h = absurd (true≢false (sym h))
is_zero (Some (ordinal t n)) h = absurd (true≢false (sym h))

pub zero-is : (u : Outcome) → u ≡ Some (number 0) → is_false (truth u) ≡ true
zero-is u h = ap (λ v. is_false (truth v)) h

-- ---- one time after the other

pub none-has : (f : Formula) → HasMarks f (none_of f)
none-has (now e) = tt
none-has (next at f) = none-has f
none-has (when c f) = none-has f
none-has (weak p q) = tt

module _ (scene : Scene) (b : Bindings) where
  met : (e : Expr) (s : State) → is_met scene b e s ≡ true → Is scene b e s
  met e s h = is_one (outcome scene s e b) h

  is-met : (e : Expr) (s : State) → Is scene b e s → is_met scene b e s ≡ true
  is-met e s h = one-is (outcome scene s e b) h

  out-stops : (c : Expr) (s : State) → IsOut scene b c s → goes_on scene b c s ≡ false
  out-stops c s h = ap not (zero-is (outcome scene s c b) h)

  stops-out : (c : Expr) (s : State) → goes_on scene b c s ≡ false → IsOut scene b c s
  stops-out c s h = is_zero (outcome scene s c b) (last (is_false (truth (outcome scene s c b))) h)
    where
      last : (a : Bool) → not a ≡ false → a ≡ true
      last true k = refl
      last false k = absurd (true≢false k)

  -- what has to hold of a W at its first state and behind it
  pub part : (p q : Expr) (s : State) (run : List State) → HoldsUnless scene b p q (s ∷ run) → Is scene b q s ⊎ (Is scene b p s × HoldsUnless scene b p q run)
  part p q s run h = by_test (cases_Bool (is_met scene b q s))
    where
      first : Is scene b p s ⊎ ((v : ℕ) × (v ≤ 0) × At scene b q (s ∷ run) v) → is_met scene b q s ≡ false → Is scene b p s
      first (inl x) no-q = x
      first (inr (zero, l, x)) no-q = impossible (is_met scene b q s) (is-met q s x) no-q
      first (inr (suc v, l, x)) no-q = absurd (omega (arith, l))

      later : (u : ℕ) → At scene b p run u ⊎ ((v : ℕ) × (v ≤ suc u) × At scene b q (s ∷ run) v) → is_met scene b q s ≡ false → At scene b p run u ⊎ ((v : ℕ) × (v ≤ u) × At scene b q run v)
      later u (inl x) no-q = inl x
      later u (inr (zero, l, x)) no-q = impossible (is_met scene b q s) (is-met q s x) no-q
      later u (inr (suc v, l, x)) no-q = inr (v, omega (arith, l), x)

      by_test : (is_met scene b q s ≡ true) ⊎ (is_met scene b q s ≡ false) → Is scene b q s ⊎ (Is scene b p s × HoldsUnless scene b p q run)
      by_test (inl yes-q) = inl (met q s yes-q)
      by_test (inr no-q) = inr (first (h 0 (omega arith)) no-q, λ u l. later u (h (suc u) (omega (arith, l))) no-q)

  pub fold : (p q : Expr) (s : State) (run : List State) → Is scene b q s ⊎ (Is scene b p s × HoldsUnless scene b p q run) → HoldsUnless scene b p q (s ∷ run)
  fold p q s run (inl x) u l = inr (zero, omega arith, x)
  fold p q s run (inr (x, h)) zero l = inl x
  fold p q s run (inr (x, h)) (suc u) l = later (h u (omega (arith, l)))
    where
      later : At scene b p run u ⊎ ((v : ℕ) × (v ≤ u) × At scene b q run v) → At scene b p run u ⊎ ((v : ℕ) × (v ≤ suc u) × At scene b q (s ∷ run) v)
      later (inl y) = inl y
      later (inr (v, k, y)) = inr (suc v, omega (arith, k), y)

  -- behind the last state everything holds
  pub behind-all : (f : Formula) → HoldsFrom scene b f []
  behind-all (now e) = tt
  behind-all (next at f) = tt
  behind-all (when c f) = tt
  behind-all (weak p q) = λ u l. absurd (omega (arith, l))

  -- what the marks still owe at the first of these states
  abbrev pub Owed : Formula → List Bool → List State → Type 0
  Owed (now e) marks run = Unit {0}
  Owed (next at f) [] run = Unit {0}
  Owed (next at f) (mark ∷ marks) run = (mark ≡ true → HoldsFrom scene b f run) × Owed f marks run
  Owed (when c f) marks run = Owed f marks run
  Owed (weak p q) [] run = Unit {0}
  Owed (weak p q) (waits ∷ marks) run = waits ≡ true → HoldsUnless scene b p q run

  pub nothing-owed : (f : Formula) (run : List State) → Owed f (none_of f) run
  nothing-owed (now e) run = tt
  nothing-owed (next at f) run = (λ h. absurd (true≢false (sym h)), nothing-owed f run)
  nothing-owed (when c f) run = nothing-owed f run
  nothing-owed (weak p q) run = λ h. absurd (true≢false (sym h))

  pub behind-owed : (f : Formula) (marks : List Bool) → Owed f marks []
  behind-owed (now e) marks = tt
  behind-owed (next at f) [] = tt
  behind-owed (next at f) (mark ∷ marks) = (λ h. behind-all f, behind-owed f marks)
  behind-owed (when c f) marks = behind-owed f marks
  behind-owed (weak p q) [] = tt
  behind-owed (weak p q) (waits ∷ marks) = λ h u l. absurd (omega (arith, l))

  pub stepped-has : (f : Formula) (here : Bool) (marks : List Bool) (s : State) → HasMarks f marks → HasMarks f (stepped scene b f here marks s)
  stepped-has (now e) here marks s has = tt
  stepped-has (next at f) here [] s has = absurd has
  stepped-has (next at f) here (mark ∷ marks) s has = stepped-has f mark marks s has
  stepped-has (when c f) here marks s has = stepped-has f (here && goes_on scene b c s) marks s has
  stepped-has (weak p q) here [] s has = absurd has
  stepped-has (weak p q) here (waits ∷ marks) s has = tt

  -- one state: what holds of it and behind it is what is asked of it and owed behind it
  pub ask : (f : Formula) (here : Bool) (marks : List Bool) (s : State) (run : List State) → HasMarks f marks →
      (here ≡ true → HoldsFrom scene b f (s ∷ run)) → Owed f marks (s ∷ run) → Asked scene b f here marks s × Owed f (stepped scene b f here marks s) run
  ask (now e) here marks s run has h owed = (h, tt)
  ask (next at f) here [] s run has h owed = absurd has
  ask (next at f) here (mark ∷ marks) s run has h owed = let r = ask f mark marks s run has owed.0 owed.1 in (r.0, (h, r.1))
  ask (when c f) here marks s run has h owed = ask f (here && goes_on scene b c s) marks s run has (λ e. on (right_of here (goes_on scene b c s) e) (h (left_of here (goes_on scene b c s) e))) owed
    where
      on : goes_on scene b c s ≡ true → IsOut scene b c s ⊎ HoldsFrom scene b f (s ∷ run) → HoldsFrom scene b f (s ∷ run)
      on goes (inl out) = impossible (goes_on scene b c s) goes (out-stops c s out)
      on goes (inr k) = k
  ask (weak p q) here [] s run has h owed = absurd has
  ask (weak p q) here (waits ∷ marks) s run has h owed = (λ e. either (all e), λ e. behind (not-true (is_met scene b q s) (right_of (here || waits) (not (is_met scene b q s)) e)) (all (left_of (here || waits) (not (is_met scene b q s)) e)))
    where
      from : (here ≡ true) ⊎ (waits ≡ true) → HoldsUnless scene b p q (s ∷ run)
      from (inl e) = h e
      from (inr e) = owed e

      all : here || waits ≡ true → Is scene b q s ⊎ (Is scene b p s × HoldsUnless scene b p q run)
      all e = part p q s run (from (or_cases here waits e))

      either : Is scene b q s ⊎ (Is scene b p s × HoldsUnless scene b p q run) → Is scene b q s ⊎ Is scene b p s
      either (inl x) = inl x
      either (inr x) = inr x.0

      behind : is_met scene b q s ≡ false → Is scene b q s ⊎ (Is scene b p s × HoldsUnless scene b p q run) → HoldsUnless scene b p q run
      behind no-q (inl x) = impossible (is_met scene b q s) (is-met q s x) no-q
      behind no-q (inr x) = x.1

  pub answer : (f : Formula) (here : Bool) (marks : List Bool) (s : State) (run : List State) → HasMarks f marks →
      Asked scene b f here marks s → Owed f (stepped scene b f here marks s) run → (here ≡ true → HoldsFrom scene b f (s ∷ run)) × Owed f marks (s ∷ run)
  answer (now e) here marks s run has asked owed = (asked, tt)
  answer (next at f) here [] s run has asked owed = absurd has
  answer (next at f) here (mark ∷ marks) s run has asked owed = (owed.0, answer f mark marks s run has asked owed.1)
  answer (when c f) here marks s run has asked owed = let r = answer f (here && goes_on scene b c s) marks s run has asked owed in (λ e. out (cases_Bool (goes_on scene b c s)) e r.0, r.1)
    where
      out : (goes_on scene b c s ≡ true) ⊎ (goes_on scene b c s ≡ false) → here ≡ true → (here && goes_on scene b c s ≡ true → HoldsFrom scene b f (s ∷ run)) → IsOut scene b c s ⊎ HoldsFrom scene b f (s ∷ run)
      out (inl goes) e k = inr (k (and_from here (goes_on scene b c s) e goes))
      out (inr stops) e k = inl (stops-out c s stops)
  answer (weak p q) here [] s run has asked owed = absurd has
  answer (weak p q) here (waits ∷ marks) s run has asked owed = (λ e. all (or_left here waits e), λ e. all (or_right here waits e))
    where
      each : here || waits ≡ true → (is_met scene b q s ≡ true) ⊎ (is_met scene b q s ≡ false) → Is scene b q s ⊎ Is scene b p s → Is scene b q s ⊎ (Is scene b p s × HoldsUnless scene b p q run)
      each e (inl yes-q) k = inl (met q s yes-q)
      each e (inr no-q) (inl x) = inl x
      each e (inr no-q) (inr x) = inr (x, owed (and_from (here || waits) (not (is_met scene b q s)) e (not_from_false (is_met scene b q s) no-q)))

      all : here || waits ≡ true → HoldsUnless scene b p q (s ∷ run)
      all e = fold p q s run (each e (cases_Bool (is_met scene b q s)) (asked e))

  pub asked-along : (f : Formula) (marks : List Bool) (run : List State) → HasMarks f marks → AlwaysHolds scene b f run → Owed f marks run → AskedAlong scene b f marks run
  asked-along f marks [] has always owed = tt
  asked-along f marks (s ∷ run) has always owed =
      let r = ask f true marks s run has (λ e. always.0) owed in
      (r.0, asked-along f (stepped scene b f true marks s) run (stepped-has f true marks s has) always.1 r.1)

  pub held-along : (f : Formula) (marks : List Bool) (run : List State) → HasMarks f marks → AskedAlong scene b f marks run → AlwaysHolds scene b f run × Owed f marks run
  held-along f marks [] has asked = (tt, behind-owed f marks)
  held-along f marks (s ∷ run) has asked =
      let k = held-along f (stepped scene b f true marks s) run (stepped-has f true marks s has) asked.1 in
      let r = answer f true marks s run has asked.0 k.1 in
      ((r.0 refl, k.0), r.1)

pub watching : WatchingIsExact
watching scene b f run = (λ asked. (held-along scene b f (none_of f) run (none-has f) asked).0, λ always. asked-along scene b f (none_of f) run (none-has f) always (nothing-owed scene b f run))
