use Rattle.std.proofs.Common.{◌≡◌, length}
use Rattle.smv_orders.proofs.Orders.{Stand}
use Rattle.smv_orders.proofs.places_in.Given as goal

abbrev pub invariant-loop-place : goal.invariant-loop-place
invariant-loop-place l = record {
  count : length l.places.items ≡ length l.order;
  stand : Stand l.order l.place l.places.items;
}
