use Rattle.graph_loops.specs.Walks.{lists, IsShortest}
use Rattle.graph_loops.proofs.Shortest.{IsAmong}
use Rattle.graph_loops.proofs.search.shortest_loop.Given as goal

abbrev pub invariant-loop-target : goal.invariant-loop-target
invariant-loop-target l = IsShortest (IsAmong (lists l.graph) l.targets l.target-index) l.best.items
