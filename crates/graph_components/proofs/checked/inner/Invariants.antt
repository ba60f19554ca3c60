use Rattle.std.proofs.Common.{◌≡◌, ◌++◌, drop}
use Rattle.graph_search.specs.Walks.{lists}
use Rattle.graph_components.specs.Inner.{inner}
use Rattle.graph_components.proofs.checked.inner.Given as goal

abbrev pub invariant-loop-node : goal.invariant-loop-node
invariant-loop-node l = lists l.inner.items ++ inner l.labels l.node (drop l.node (lists l.graph)) ≡ inner l.labels 0 (lists l.graph)
