use Rattle.std.proofs.Common.{ℕ, ◌<◌}
use Rattle.smv_loops.specs.Ranks.{rank}
use Rattle.smv_loops.proofs.loops.has_none.Given as goal

abbrev pub invariant-loop-rank : goal.invariant-loop-rank
invariant-loop-rank l = (cell : ℕ) → cell < l.rank-index → 0 < rank l.ranks cell
