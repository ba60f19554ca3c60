use Rattle.std.proofs.Common.{◌≡◌, ℕ, ◌<◌, ◌⊎◌, length, get_or, true}
use Rattle.std.specs.List.{Contains}
use Rattle.smv_loops.specs.Ranks.{flag}
use Rattle.smv_loops.proofs.ranks.flag_all.Given as goal

abbrev pub invariant-loop-cell : goal.invariant-loop-cell
invariant-loop-cell l = record {
  room : length l.flags ≡ length l.initial.flags;
  kept : (cell : ℕ) → flag l.initial.flags cell ≡ true → flag l.flags cell ≡ true;
  is_one : (cell : ℕ) → flag l.flags cell ≡ true → (flag l.initial.flags cell ≡ true) ⊎ Contains l.cells cell;
  each : (a : ℕ) → a < l.cell-index → flag l.flags (get_or l.cells a 0) ≡ true;
}
