-- A table of which nothing is known is right wherever expressions are read before.
use Rattle.std.proofs.Common.{◌≡◌, ℕ, List, [], Bool, Option, Some, None}
use Rattle.smv_problem.specs.declared.problem.Problem.{Problem}
use Rattle.smv_cells.specs.declared.cells.Cell.{Cell}
use Rattle.smv_outcomes.specs.Remembered.{Entries}
use Rattle.smv_outcomes.proofs.KnownLaws.{none_known}
use Rattle.smv_walks.specs.Demands.{AreOldKnown}

pub none_past : {S C : Type 0} (IsMade : S → C → Type 0) (holds : S → C → (ℕ → Bool) → Bool) (s : S) (problem : Problem) (old : Option (List (Cell C))) (entries : Entries C) → entries ≡ [] → AreOldKnown IsMade holds s problem old entries
none_past IsMade holds s problem None entries e = tt
none_past IsMade holds s problem (Some cells) entries e = none_known IsMade holds s problem cells entries e
