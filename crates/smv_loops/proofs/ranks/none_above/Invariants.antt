use Rattle.std.proofs.Common.{◌≡◌, ℕ, ◌<◌}
use Rattle.smv_loops.specs.Ranks.{rank_at}
use Rattle.smv_loops.proofs.ranks.none_above.Given as goal

abbrev pub invariant-loop-cell : goal.invariant-loop-cell
invariant-loop-cell l = (a : ℕ) → a < l.cell-index → rank_at l.ranks l.cells a ≡ 0
