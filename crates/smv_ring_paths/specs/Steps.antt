-- Steps, and how violating paths end.
use Rattle.std.specs.Prelude.{◌≡◌, true, List, [], ◌∷◌}
use Rattle.bdd_ops.specs.Functions.{Function}
use Rattle.smv_rings.specs.Lists.{Lists, State, both, at, all_of}
use Rattle.smv_rings.specs.Paths.{Steps}

-- a step to s from a state of the set, in which all these functions hold
pub record IsStep (set : Function) (fs : List Function) (r s : State) : Type 0 where
  pub is_from : set (at r) ≡ true
  pub holds : all_of fs (both r s) ≡ true

-- From r on a violating path goes through these states: everything holds in each step but the last one, and that leads to a broken state.
abbrev pub GoesOn : Lists → State → List State → Type 0
GoesOn l r [] = ⊥
GoesOn l r (s ∷ []) = (all_of l.now_step (both r s) ≡ true) × (l.broken_step (both r s) ≡ true)
GoesOn l r (s ∷ t ∷ states) = Steps l r s × GoesOn l s (t ∷ states)
