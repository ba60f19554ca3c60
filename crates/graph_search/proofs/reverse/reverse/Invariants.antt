use Rattle.graph_search.specs.Walks.{lists}
use Rattle.graph_search.proofs.ReverseLaws.{IsReverseTo}
use Rattle.graph_search.proofs.reverse.reverse.Given as goal

abbrev pub invariant-loop-node : goal.invariant-loop-node
invariant-loop-node l = IsReverseTo (lists l.graph) (lists l.back.items) l.node
