use Rattle.std.proofs.Common.{◌≡◌, ℕ, ◌*◌, ◌<◌, length}
use Rattle.bdd_ops.specs.Functions.{bit_at}
use Rattle.smv_ring_paths.proofs.sets.one_of.Given as goal

abbrev pub invariant-loop-bit : goal.invariant-loop-bit
invariant-loop-bit l = record {
  count : length l.state.items ≡ l.bit;
  same : (k : ℕ) → k < l.bit → bit_at l.state.items k ≡ bit_at l.values.items (2 * k);
}
