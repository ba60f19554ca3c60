use Rattle.std.proofs.Common.{◌≡◌, length}
use Rattle.graph_components.proofs.tried.give_all.Given as goal

-- as many labels as before
abbrev pub invariant-loop-node : goal.invariant-loop-node
invariant-loop-node l = length l.labels.items ≡ length l.initial.labels.items
