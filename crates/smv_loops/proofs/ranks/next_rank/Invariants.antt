use Rattle.std.proofs.Common.{ℕ, ◌<◌, ◌≤◌}
use Rattle.smv_loops.specs.Ranks.{rank}
use Rattle.smv_loops.proofs.ranks.next_rank.Given as goal

abbrev pub invariant-loop-rank : goal.invariant-loop-rank
invariant-loop-rank l = (k : ℕ) → k < l.rank-index → rank l.ranks k ≤ l.most
