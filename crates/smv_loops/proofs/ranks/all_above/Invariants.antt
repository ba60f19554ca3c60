use Rattle.std.proofs.Common.{ℕ, ◌<◌}
use Rattle.smv_loops.specs.Ranks.{rank_at}
use Rattle.smv_loops.proofs.ranks.all_above.Given as goal

abbrev pub invariant-loop-cell : goal.invariant-loop-cell
invariant-loop-cell l = (a : ℕ) → a < l.cell-index → 0 < rank_at l.ranks l.cells a → l.most < rank_at l.ranks l.cells a
