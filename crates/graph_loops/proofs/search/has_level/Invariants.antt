use Rattle.std.proofs.Common.{◌≢◌, ℕ, ◌<◌, get_or}
use Rattle.graph_loops.specs.declared.edges.Mark.{Mark}
use Rattle.graph_loops.proofs.search.has_level.Given as goal

abbrev pub invariant-loop-mark : goal.invariant-loop-mark
invariant-loop-mark l = (j : ℕ) (d : Mark) → j < l.mark-index → (get_or l.marks j d).steps ≢ l.steps
