-- The laws: what the crate's public functions say.
use Rattle.std.specs.Prelude.{◌≡◌, List, true}
use Rattle.smv_core.specs.declared.flat.FlatExpr.{FlatExpr}
use Rattle.law_obligations.specs.Places.{Place}
use Rattle.law_obligations.specs.May.{AbsState, may}
use Rattle.law_obligations.specs.Mix.{is_there}
use Rattle.law_obligations.specs.Readings.{PosedCase}
use Rattle.smv_problem.specs.Written.{written}
use Rattle.smv_problem.specs.WellFormed.{IsWellFormed}
use Rattle.smv_problem_spots.specs.Worlds.{IsWorldOf}

-- a problem speaks of the world of the case that it is written from
abbrev pub WorldsOfCases : Type 0
WorldsOfCases = (c : PosedCase) → IsWellFormed c → IsWorldOf (written c) c.problem.world

-- each expression has an outcome, since each type of a family has a value
abbrev pub ExpressionsHaveOutcomes : Type 0
ExpressionsHaveOutcomes = (c : PosedCase) → IsWellFormed c → (a : AbsState) (e : FlatExpr) (b : List Place) → is_there (may c.problem.world c.problem.kept a e b) ≡ true
