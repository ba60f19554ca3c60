use Rattle.std.proofs.Common.{◌≡◌, ℕ, ◌<◌, get_or, length}
use Rattle.bdd_ops.specs.Functions.{bit_at}
use Rattle.smv_orders.proofs.bits_from_places.Given as goal

abbrev pub invariant-loop-place : goal.invariant-loop-place
invariant-loop-place l = record {
  count : length l.bits.items ≡ l.place-index;
  bits : (b : ℕ) → b < l.place-index → bit_at l.bits.items b ≡ bit_at l.values (get_or l.places b 0);
}
