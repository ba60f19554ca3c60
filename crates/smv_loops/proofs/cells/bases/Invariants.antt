use Rattle.std.proofs.Common.{◌≡◌, ℕ, ◌<◌, length, get_or}
use Rattle.smv_loops.specs.Cells.{base}
use Rattle.smv_loops.proofs.cells.bases.Given as goal

abbrev pub invariant-loop-family : goal.invariant-loop-family
invariant-loop-family l = record {
  room : length l.bases.items ≡ l.family-index;
  each : (k : ℕ) → k < l.family-index → get_or l.bases.items k 0 ≡ base l.families k;
  total : l.total ≡ base l.families l.family-index;
}
