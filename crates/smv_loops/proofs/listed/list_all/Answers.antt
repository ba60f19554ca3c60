use Rattle.std.proofs.Common.{◌<◌, length, arith}
use Rattle.smv_loops.specs.Order.{listed}
use Rattle.smv_loops.proofs.WayLaws.{all-more, some-at}
use Rattle.smv_loops.proofs.listed.list_all.Goals as goal

pub loop-place-preserved : goal.loop-place-preserved
loop-place-preserved c =
    let families = c.args.families.now in
    let i = c.loop-place.place in
    let lt : i < length families = omega (arith, c.loop-place-test.true) in
    let at = some-at families i lt in
    all-more (listed families c.args.ranks.now) families i at.0 c.loop-place.all.items c.list_family.new.out.items lt at.2 c.loop-place.invariant (c.in_ok-list_family.ensures at.0 at.1)
