use Rattle.graph_loops.specs.Walks.{lists}
use Rattle.graph_loops.proofs.RoundLaws.{AreTurned}
use Rattle.graph_loops.proofs.search.round.Given as goal

abbrev pub invariant-loop-node : goal.invariant-loop-node
invariant-loop-node l = AreTurned (lists l.graph) l.marks l.target l.steps l.node l.new.items
