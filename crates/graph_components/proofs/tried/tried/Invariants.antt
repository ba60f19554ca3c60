use Rattle.std.proofs.Common.{◌≡◌, length}
use Rattle.graph_components.proofs.tried.tried.Given as goal

-- a label for each node
abbrev pub invariant-loop-node : goal.invariant-loop-node
invariant-loop-node l = length l.labels.items ≡ length l.graph
