-- When a run violates a unit: an instance of the unit does not hold at its last time.
use Rattle.std.specs.Prelude.{List, [], ◌∷◌, Option, Some, None, Contains}
use Rattle.smv_core.specs.Values.{Value, Sizes}
use Rattle.smv_core.specs.FlatOrder.{TextDesign}
use Rattle.smv_core.specs.Outcome.{State}
use Rattle.smv_core.specs.Sound.{ProofUnit, IsRun, Holds, instances}

-- what holds of the last state, with the state before it
abbrev pub AtLastTime : (Option State → State → Type 0) → Option State → List State → Type 0
AtLastTime P before [] = ⊥
AtLastTime P before (s ∷ []) = P before s
AtLastTime P before (s ∷ t ∷ run) = AtLastTime P (Some s) (t ∷ run)

-- a violating path: a run at whose last time an instance of the unit does not hold
abbrev pub IsViolating : TextDesign → Sizes → ProofUnit → List State → Type 0
IsViolating d sizes unit run =
    IsRun d sizes run × ((vs : List Value) × Contains (instances d sizes unit) vs × AtLastTime (λ before now. ¬ Holds d sizes unit vs before now) None run)
