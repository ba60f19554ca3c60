use Rattle.std.proofs.Common.{◌≡◌, [], replicate}
use Rattle.graph_search.specs.Walks.{lists}
use Rattle.graph_search.proofs.reverse.no_edges.Given as goal

abbrev pub invariant-loop-node : goal.invariant-loop-node
invariant-loop-node l = lists l.back.items ≡ replicate l._node []
