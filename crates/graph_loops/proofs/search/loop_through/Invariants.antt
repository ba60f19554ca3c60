use Rattle.graph_loops.specs.Walks.{lists}
use Rattle.graph_loops.specs.Marks.{AreMarks}
use Rattle.graph_loops.proofs.search.loop_through.Given as goal

abbrev pub invariant-loop-steps : goal.invariant-loop-steps
invariant-loop-steps l = AreMarks (lists l.graph) l.target l.steps l.marks.items
