use Rattle.std.proofs.Common.{ℕ, ◌<◌, ◌≤◌, get_or}
use Rattle.std.specs.List.{Contains}
use Rattle.graph_search.specs.Walks.{lists}
use Rattle.graph_search.specs.Reverse.{after}
use Rattle.graph_components.proofs.checked.rises.Given as goal

abbrev pub invariant-loop-node : goal.invariant-loop-node
invariant-loop-node l = (x y : ℕ) → x < l.node → Contains (after (lists l.graph) x) y → get_or l.labels x 0 ≤ get_or l.labels y 0
