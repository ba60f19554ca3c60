use Rattle.std.proofs.Common.{◌≡◌, ◌++◌, drop}
use Rattle.graph_components.specs.Inner.{alike}
use Rattle.graph_components.proofs.checked.alike.Given as goal

abbrev pub invariant-loop-node : goal.invariant-loop-node
invariant-loop-node l = l.alike.items ++ alike l.labels l.of (drop l.node-index l.nodes) ≡ alike l.labels l.of l.nodes
