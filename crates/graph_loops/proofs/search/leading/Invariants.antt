use Rattle.std.proofs.Common.{◌≡◌, ℕ, ◌<◌, get_or, false}
use Rattle.graph_loops.specs.declared.edges.Edge.{Edge}
use Rattle.graph_loops.specs.Marks.{is_level}
use Rattle.graph_loops.proofs.search.leading.Given as goal

abbrev pub invariant-loop-edge : goal.invariant-loop-edge
invariant-loop-edge l = (j : ℕ) (d : Edge) → j < l.edge-index → is_level l.marks l.target l.steps (get_or l.edges j d).to ≡ false
