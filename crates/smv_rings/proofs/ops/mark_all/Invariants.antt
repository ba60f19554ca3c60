use Rattle.std.proofs.Common.{◌≡◌, ℕ, ◌<◌, ◌≤◌, ◌||◌, length}
use Rattle.bdd_ops.specs.Functions.{bit_at}
use Rattle.smv_rings.proofs.ops.mark_all.Given as goal

abbrev pub invariant-loop-i : goal.invariant-loop-i
invariant-loop-i l = record {
  count : length l.read.items ≡ length l.initial.read.items;
  done : (v : ℕ) → v < l.i → bit_at l.read.items v ≡ (bit_at l.initial.read.items v || bit_at l.more v);
  left : (v : ℕ) → l.i ≤ v → bit_at l.read.items v ≡ bit_at l.initial.read.items v;
}
