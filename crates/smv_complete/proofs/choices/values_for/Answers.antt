use Rattle.smv_complete.proofs.States.{values_read}
use Rattle.smv_complete.proofs.choices.values_for.Goals as goal

pub returns : goal.returns
returns c =
    values_read c.args.problem.now c.args.family c.list_for-list.result c.list_for-list.ensures c.in_ok-places.places.items c.as_slice-spots.result.now c.as_slice-spots.ensures.value c.in_ok-places.ensures c.loop-spot.spot-index c.loop-spot-test.false c.loop-spot.values.items c.loop-spot.invariant
