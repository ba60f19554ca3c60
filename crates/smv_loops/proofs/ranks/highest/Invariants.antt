use Rattle.std.proofs.Common.{ℕ, ◌<◌, ◌≤◌}
use Rattle.smv_loops.specs.Ranks.{rank_at}
use Rattle.smv_loops.proofs.ranks.highest.Given as goal

abbrev pub invariant-loop-cell : goal.invariant-loop-cell
invariant-loop-cell l = (b : ℕ) → b < l.cell-index → (0 < rank_at l.ranks l.cells b) × (rank_at l.ranks l.cells b ≤ l.most)
