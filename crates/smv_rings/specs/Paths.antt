-- Paths over the lists of one case, and the rings.
use Rattle.std.specs.Prelude.{◌≡◌, ℕ, zero, suc, ◌≤◌, true}
use Rattle.bdd_ops.specs.Functions.{Function}
use Rattle.smv_rings.specs.Lists.{Lists, State, both, at, all_of}

-- everything holds in the state at time 0
abbrev pub Starts : Lists → State → Type 0
Starts l s = (all_of l.now_first (at s) ≡ true) × (all_of l.before_first (at s) ≡ true)

-- everything holds in the new state of a step
abbrev pub Steps : Lists → State → State → Type 0
Steps l old new = (all_of l.now_step (both old new) ≡ true) × (all_of l.before_step (both old new) ≡ true)

-- s is the last state of a path of k steps at every time of which everything holds
unfoldable pub Ends : Lists → ℕ → State → Type 0
Ends l zero s = Starts l s
Ends l (suc k) s = (r : State) × Ends l k r × Steps l r s

-- ring k: the last states of paths of at most k steps at every time of which everything holds
unfoldable pub InRing : Lists → ℕ → State → Type 0
InRing l k s = (j : ℕ) × (j ≤ k) × Ends l j s

-- s is the last state of a violating path of k steps: the `now` part holds at every time, the `before` part at every
-- time before the last, and the last state is broken
unfoldable pub Violates : Lists → ℕ → State → Type 0
Violates l zero s = (all_of l.now_first (at s) ≡ true) × (l.broken_first (at s) ≡ true)
Violates l (suc k) s = (r : State) × Ends l k r × (all_of l.now_step (both r s) ≡ true) × (l.broken_step (both r s) ≡ true)

-- a violating path of k steps, as its states
pub record IsViolating (l : Lists) (k : ℕ) (path : ℕ → State) : Type 0 where
  pub starts : all_of l.now_first (at (path 0)) ≡ true
  pub starts_before : 1 ≤ k → all_of l.before_first (at (path 0)) ≡ true
  pub steps : (i : ℕ) → suc i ≤ k → all_of l.now_step (both (path i) (path (suc i))) ≡ true
  pub steps_before : (i : ℕ) → suc (suc i) ≤ k → all_of l.before_step (both (path i) (path (suc i))) ≡ true
  pub broken_first : k ≡ 0 → l.broken_first (at (path 0)) ≡ true
  pub broken_step : (i : ℕ) → suc i ≡ k → l.broken_step (both (path i) (path (suc i))) ≡ true

-- the four conditions of induction
pub record IsInductive (l : Lists) (set : Function) : Type 0 where
  pub starts : (s : State) → Starts l s → set (at s) ≡ true
  pub closed : (old new : State) → set (at old) ≡ true → Steps l old new → set (at new) ≡ true
  pub safe_first : (s : State) → all_of l.now_first (at s) ≡ true → l.broken_first (at s) ≡ true → ⊥
  pub safe_step : (old new : State) → set (at old) ≡ true → all_of l.now_step (both old new) ≡ true → l.broken_step (both old new) ≡ true → ⊥
