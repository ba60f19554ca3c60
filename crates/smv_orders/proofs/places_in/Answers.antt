use Rattle.std.proofs.Common.{◌+◌, ℕ, set, sym, subst, ◌∙◌, arith}
use Rattle.std.proofs.lemmas.List.{length-set}
use Rattle.smv_orders.proofs.Orders.{Stand, stand_next, are_placed, are_within, bit_within}
use Rattle.smv_orders.proofs.places_in.Goals as goal

pub index_mut-requires : goal.index_mut-requires
index_mut-requires c =
    let long = c.loop-place.invariant.count in
    let read = c.from.ensures in
    let below = bit_within c.args.order.now c.requires.order c.loop-place.place (omega arith) in
    omega (arith, long, read, below)

pub loop-place-preserved : goal.loop-place-preserved
loop-place-preserved c =
    let count = c.loop-place.invariant.count in
    let next = stand_next c.args.order.now c.requires.order c.loop-place.places.items c.loop-place.place count (omega arith) c.loop-place.invariant.stand in
    record {
      count = length-set c.loop-place.places.items c.from.result c.loop-place.place ∙ count;
      stand = subst (λ (bit : ℕ). Stand c.args.order.now (c.loop-place.place + 1) (set c.loop-place.places.items bit c.loop-place.place)) (sym c.from.ensures) next;
    }

pub returns-clause-are : goal.returns-clause-are
returns-clause-are c = are_placed c.args.order.now c.requires.order c.loop-place.places.items c.loop-place.invariant.count (λ j lt. c.loop-place.invariant.stand j (omega (arith, lt)))

pub returns-clause-within : goal.returns-clause-within
returns-clause-within c = are_within c.args.order.now c.requires.order c.loop-place.places.items c.loop-place.invariant.count (λ j lt. c.loop-place.invariant.stand j (omega (arith, lt)))
