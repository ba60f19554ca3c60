use Rattle.std.proofs.Common.{◌<◌, length, arith}
use Rattle.smv_single_assignment.specs.Links.{held}
use Rattle.smv_single_assignment.proofs.LinkLaws.{held-length}
use Rattle.smv_single_assignment.proofs.EarlierLaws.{mixed-step}
use Rattle.smv_single_assignment.proofs.mixed.first_mixed.Goals as goal

pub loop-place-preserved : goal.loop-place-preserved
loop-place-preserved c =
    let all = held c.args.table.now in
    let lt : c.loop-place.place < length all = omega (arith, c.loop-place-test.true, held-length c.args.table.now.all.items) in
    mixed-step all c.loop-place.place c.loop-place.found c.first_clash-met.result c.first_of-found.result lt c.loop-place.invariant (c.first_clash-met.ensures (omega arith) (omega (arith, lt))) c.first_of-found.ensures
