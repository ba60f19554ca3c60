use Rattle.std.proofs.Common.{map, refl, arith}
use Rattle.smv_single_assignment.specs.Held.{standing_of}
use Rattle.smv_single_assignment.proofs.LinkLaws.{held-at, held-length}
use Rattle.smv_single_assignment.proofs.SharedLaws.{have-more, spots-shared}
use Rattle.smv_single_assignment.proofs.shared.are_shared.Goals as goal

pub loop-place-preserved : goal.loop-place-preserved
loop-place-preserved c =
    let all = map standing_of c.args.all.now in
    let here = held-at c.args.all.now c.loop-place.place c.index-all-place.result (omega arith) c.index-all-place.is in
    have-more c.in_ok-kept.kept all c.args.classes.now c.loop-place.place (standing_of c.index-all-place.result) _ here refl (c.has_spots.ensures c.if-not-has_spots.false) c.loop-place.invariant

pub returns : goal.returns
returns c = λ e.
    spots-shared c.in_ok-kept.kept (map standing_of c.args.all.now) c.args.classes.now c.requires.0 c.loop-place.place c.requires.1 (omega (arith, c.loop-place-test.false, held-length c.args.all.now)) c.loop-place.invariant
