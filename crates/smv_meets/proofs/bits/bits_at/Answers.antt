use Rattle.smv_meets.proofs.BitFunctions.{is_variable, is_before}
use Rattle.smv_meets.proofs.bits.bits_at.Goals as goal

pub node-requires-clause-var_in : goal.node-requires-clause-var_in
node-requires-clause-var_in c = is_variable c.args.store.now c.loop-place.store c.args.places.now c.loop-place.place-index c.from.result c.loop-place.invariant.keeps c.requires c.loop-place-test.true c.from.ensures

pub node-requires-clause-low_later : goal.node-requires-clause-low_later
node-requires-clause-low_later c =
    is_before c.args.store.now c.loop-place.store c.args.places.now c.loop-place.place-index c.from.result c.loop-place.invariant.keeps c.requires c.loop-place-test.true c.from.ensures
    c.constant-never.result c.constant-never.ensures.live c.constant-never.ensures.first

pub node-requires-clause-high_later : goal.node-requires-clause-high_later
node-requires-clause-high_later c =
    is_before c.args.store.now c.loop-place.store c.args.places.now c.loop-place.place-index c.from.result c.loop-place.invariant.keeps c.requires c.loop-place-test.true c.from.ensures
    c.constant-always.result c.constant-always.ensures.live c.constant-always.ensures.first
