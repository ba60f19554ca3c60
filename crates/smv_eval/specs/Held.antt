-- How states that are given are read by cells at plain conditions.
use Rattle.std.specs.Prelude.{◌≡◌, ℕ, List, Option, Some, None, Bool, true}
use Rattle.law_obligations.specs.May.{AbsState}
use Rattle.law_obligations.specs.Obligations.{AbstractProblem as Case, Demanded, defined, holds}
use Rattle.smv_problem.specs.declared.problem.Problem.{Problem}
use Rattle.smv_conditions.specs.declared.stores.Plain.{Plain}
use Rattle.smv_cells.specs.declared.cells.Cell.{Cell}
use Rattle.smv_cells.specs.Seen.{IsSeen}
use Rattle.smv_walks.specs.Demands.{view_of, IsReadBefore, AreRead}
use Rattle.smv_eval.specs.States.{plainly}

-- the same state at each assignment
abbrev pub steady : Option AbsState → Option ((ℕ → Bool) → AbsState)
steady None = None
steady (Some before) = Some (λ a. before)

-- the state now is read by these cells
abbrev pub IsNowBy : Problem → List (Cell Bool) → Case → AbsState → Type 0
IsNowBy problem cells p now = (s : Plain) → IsSeen plainly s problem cells (view_of p (λ a. now))

-- the state before is read by the cells before
abbrev pub IsBeforeBy : Problem → Option (List (Cell Bool)) → Case → Option AbsState → Type 0
IsBeforeBy problem old p before = (s : Plain) → IsReadBefore plainly s problem old p (steady before)

-- the states of a case are read by these cells, those before and those now
abbrev pub AreReadBy : Problem → Option (List (Cell Bool)) → List (Cell Bool) → Case → Option AbsState → AbsState → Type 0
AreReadBy problem old cells p before now = (s : Plain) → AreRead plainly s problem old cells p (steady before) (λ a. now)

-- the element of a demand is kept; a claim has none
abbrev pub IsKept : Case → Demanded → Type 0
IsKept p (defined def indexes) = p.kept def.family indexes ≡ true
IsKept p (holds body b) = Unit {0}
