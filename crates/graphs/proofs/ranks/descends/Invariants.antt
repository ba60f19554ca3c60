use Rattle.std.proofs.Common.{ℕ, ◌<◌}
use Rattle.graphs.specs.Graph.{next, lists}
use Rattle.graphs.specs.Ranks.{rank, IsNoneAbove}
use Rattle.graphs.proofs.ranks.descends.Given as goal

-- no edge of the nodes so far raises the rank
abbrev pub invariant-loop-node : goal.invariant-loop-node
invariant-loop-node l = (k : ℕ) → k < l.node → IsNoneAbove l.ranks (rank l.ranks k) (next (lists l.graph) k)
