use Rattle.std.proofs.Common.{ℕ, ◌<◌, ◌≤◌, get_or}
use Rattle.graphs.specs.Ranks.{rank}
use Rattle.graphs.proofs.ranks.none_above.Given as goal

-- none so far is above
abbrev pub invariant-loop-node : goal.invariant-loop-node
invariant-loop-node l = (i : ℕ) → i < l.node-index → rank l.ranks (get_or l.nodes i 0) ≤ l.most
