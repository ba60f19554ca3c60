use Rattle.std.proofs.Common.{◌≡◌, ℕ, ◌<◌, ◌≤◌, length, vec_len, get_or}
use Rattle.graph_search.specs.Walks.{lists}
use Rattle.graph_components.specs.Components.{IsFirstMate}
use Rattle.graph_components.proofs.searched.searched.Given as goal

abbrev pub invariant-loop-node : goal.invariant-loop-node
invariant-loop-node l = record {
  few : l.node ≤ length l.graph;
  room : vec_len l.labels ≡ l.node;
  each : (x : ℕ) → x < l.node → IsFirstMate (lists l.graph) x (get_or l.labels.items x 0);
}
