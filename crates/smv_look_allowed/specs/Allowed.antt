-- What the map of a unit that is false allows at the last time of its path.
use Rattle.std.specs.Prelude.{◌≡◌, List, [], ◌∷◌, ◌++◌, map, Option, Bool, true, false, if◌then◌else◌}
use Rattle.std.specs.List.{list_all}
use Rattle.smv_core.specs.declared.flat.Class.{Class}
use Rattle.smv_core.specs.declared.flat.Class.TheVariants.{Rest}
use Rattle.law_obligations.specs.Places.{is_named}
use Rattle.law_obligations.specs.May.{AbsState}
use Rattle.law_obligations.specs.Obligations.{AbstractProblem, Demanded, defined, holds}
use Rattle.law_obligations.specs.Readings.{PosedCase}
use Rattle.law_obligations.specs.CasePaths.{AreAbsStates, last_of}
use Rattle.smv_problem.specs.declared.problem.AbsValue.{AbsValue}
use Rattle.smv_problem.specs.declared.problem.AbsState.{AbsState as StateData}
use Rattle.smv_problem.specs.Written.{written_state}
use Rattle.smv_eval.specs.Sure.{sure_values}

-- The values that a target allows for certain in a state behind another one, or at time 0: those of its definition, in the order of the type. An element with an index at a rest stands for more than one, and none is certain of it; a claim
-- allows no values.
abbrev pub target_values : AbstractProblem → Demanded → Option AbsState → AbsState → List AbsValue
target_values p (defined def indexes) before now = if list_all is_named indexes then sure_values p def indexes before now else []
target_values p (holds body b) before now = []

-- these are the values that the target of a case allows for certain at the last time of a path, whatever states of the case are written as that path
abbrev pub AreAllowed : PosedCase → List StateData → List AbsValue → Type 0
AreAllowed c path values = (front : List AbsState) (last : AbsState) → AreAbsStates c.problem (front ++ last ∷ []) → path ≡ map (written_state c) (front ++ last ∷ []) → values ≡ target_values c.problem c.problem.target (last_of front) last

-- a class of an index that is a rest
abbrev pub is_rest : Class → Bool
is_rest (Rest gap) = true
is_rest class = false
