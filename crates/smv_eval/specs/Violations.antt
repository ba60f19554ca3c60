-- When states as data are the rest of a violating path of each case.
use Rattle.std.specs.Prelude.{◌≡◌, List, map, Option, Bool}
use Rattle.law_obligations.specs.May.{AbsState}
use Rattle.law_obligations.specs.Circular.{is_violating_after}
use Rattle.law_obligations.specs.Obligations.{obligation}
use Rattle.law_obligations.specs.CasePaths.{AreAbsStates}
use Rattle.smv_problem.specs.declared.problem.AbsState.{AbsState as StateData}
use Rattle.smv_problem.specs.declared.problem.Problem.{Problem}
use Rattle.smv_problem.specs.Written.{written_state}
use Rattle.smv_problem.specs.WellFormed.{OfCases}
use Rattle.smv_cells.specs.declared.cells.Cell.{Cell}
use Rattle.smv_eval.specs.Held.{IsBeforeBy}

-- states of each case are written so
abbrev pub AreStates : Problem → List StateData → Type 0
AreStates p states = OfCases p (λ c. (path : List AbsState) × AreAbsStates c.problem path × (states ≡ map (written_state c) path))

-- whether abstract states that are written so are the rest of a violating path, after one that these cells read
abbrev pub Violates : Problem → Option (List (Cell Bool)) → List StateData → Bool → Type 0
Violates p old states violates = OfCases p (λ c. (before : Option AbsState) → IsBeforeBy p old c.problem before → (path : List AbsState) → AreAbsStates c.problem path → states ≡ map (written_state c) path → violates ≡ is_violating_after (obligation c.problem) before path)
