use Rattle.std.proofs.Common.{ℕ, ◌≤◌, get_or, take}
use Rattle.std.specs.List.{Contains}
use Rattle.graph_components.proofs.checked.none_below.Given as goal

abbrev pub invariant-loop-node : goal.invariant-loop-node
invariant-loop-node l = (x : ℕ) → Contains (take l.node-index l.nodes) x → l.least ≤ get_or l.labels x 0
