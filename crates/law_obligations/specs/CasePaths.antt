-- Paths, rings and induction of a case, in abstract states.
use Rattle.std.specs.Prelude.{◌≡◌, ℕ, zero, suc, ◌≤◌, List, [], ◌∷◌, length, Option, Some, None, Bool, true, false, ◌&&◌}
use Rattle.law_obligations.specs.Sets.{Has}
use Rattle.law_obligations.specs.May.{AbsState}
use Rattle.law_obligations.specs.Pictures.{IsAbsState}
use Rattle.law_obligations.specs.Circular.{always, is_violating}
use Rattle.law_obligations.specs.Obligations.{AbstractProblem, obligation}
use Rattle.law_obligations.specs.Bits.{Bits}
use Rattle.law_obligations.specs.Readings.{PosedCase, are_values, reading}

abbrev pub AreAbsStates : AbstractProblem → List AbsState → Type 0
AreAbsStates p path = (a : AbsState) → Has path a → IsAbsState p.world p.kept a

-- a violating path of abstract states
pub record IsViolatingPath (p : AbstractProblem) (path : List AbsState) : Type 0 where
  pub are_states : AreAbsStates p path
  pub is_violating : is_violating (obligation p) path ≡ true

-- no path of abstract states is violating
abbrev pub HasNone : AbstractProblem → Type 0
HasNone p = (path : List AbsState) → AreAbsStates p path → is_violating (obligation p) path ≡ false

-- one of so many steps is, and none of fewer
pub record IsShortest (p : AbstractProblem) (steps : ℕ) (path : List AbsState) : Type 0 where
  pub is_path : IsViolatingPath p path
  pub is_so_long : length path ≡ suc steps
  pub is_least : (other : List AbsState) → IsViolatingPath p other → suc steps ≤ length other

-- the last of a list
abbrev pub last_of : {X : Type 0} → List X → Option X
last_of [] = None
last_of (x ∷ []) = Some x
last_of (x ∷ y ∷ xs) = last_of (y ∷ xs)

-- so many states of a path behind that of a time, and that one first
abbrev pub states_from : {X : Type 0} → (ℕ → X) → ℕ → ℕ → List X
states_from path i zero = path i ∷ []
states_from path i (suc more) = path i ∷ states_from path (suc i) more

-- ring k: the last states of paths of at most k steps at every time of which all demands are met
pub record IsInRing (p : AbstractProblem) (k : ℕ) (a : AbsState) : Type 0 where
  pub path : List AbsState
  pub are_states : AreAbsStates p path
  pub steps : length path ≤ suc k
  pub ends : last_of path ≡ Some a
  pub is_met : always (λ old now. (obligation p).now old now && (obligation p).before old now) None path ≡ true

-- The four conditions of induction, said of a case and a set of assignments of its bits: it has all states in which everything holds at time 0, it is closed under
-- steps in which everything holds, no state with the demands of now at time 0 is broken, and no step from it with the demands of now is broken.
pub record IsInvariant (c : PosedCase) (set : Bits → Bool) : Type 0 where
  pub starts : (s : Bits) → are_values c s ≡ true → (obligation c.problem).now None (reading c s) ≡ true → (obligation c.problem).before None (reading c s) ≡ true → set s ≡ true
  pub closed : (s t : Bits) → set s ≡ true → are_values c t ≡ true → (obligation c.problem).now (Some (reading c s)) (reading c t) ≡ true → (obligation c.problem).before (Some (reading c s)) (reading c t) ≡ true → set t ≡ true
  pub safe_first : (s : Bits) → are_values c s ≡ true → (obligation c.problem).now None (reading c s) ≡ true → (obligation c.problem).broken None (reading c s) ≡ true → ⊥
  pub safe_step : (s t : Bits) → set s ≡ true → are_values c t ≡ true → (obligation c.problem).now (Some (reading c s)) (reading c t) ≡ true → (obligation c.problem).broken (Some (reading c s)) (reading c t) ≡ true → ⊥
