use Rattle.smv_splits.proofs.LostLaws.{astray-in}
use Rattle.smv_splits.proofs.lost.first_astray.Goals as goal

pub loop-place-preserved : goal.loop-place-preserved
loop-place-preserved c =
    astray-in c.args.design.now c.args.led.now c.as_slice-split-items.result.now c.loop-place.place c.split-item.result c.is_marked.result c.loop-place.found c.place_if.result c.first_of-found.result _
    c.requires c.as_slice-split-items.ensures c.loop-place-test.true c.split-item.is c.is_marked.ensures c.place_if.ensures c.first_of-found.ensures c.loop-place.invariant
