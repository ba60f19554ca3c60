use Rattle.std.proofs.Common.{◌<◌, ◌≤◌, min, length, arith}
use Rattle.law_lists.proofs.Places.{get_or-own}
use Rattle.smv_split_faults.proofs.WaitingLaws.{other-step, other-all}
use Rattle.smv_split_faults.proofs.types.first_other_type.Goals as goal

pub loop-place-preserved : goal.loop-place-preserved
loop-place-preserved c =
    let below : c.loop-place.place < length c.args.words.now = omega (arith, c.loop-place-test.true, c.min-place-end.ensures) in
    let within : c.loop-place.place < length c.args.types.now = omega (arith, c.loop-place-test.true, c.min-place-end.ensures) in
    other-step c.args.bound.now c.args.words.now c.args.types.now c.loop-place.place c.index-words-place.result _ c.loop-place.found c.other_type.result c.first_of-found.result _
    below within c.index-words-place.is (get_or-own c.args.types.now c.loop-place.place _ within) c.other_type.ensures c.first_of-found.ensures c.loop-place.invariant

pub returns : goal.returns
returns c =
    let over : min (length c.args.words.now) (length c.args.types.now) ≤ c.loop-place.place = omega (arith, c.loop-place-test.false, c.min-place-end.ensures) in
    other-all c.args.bound.now c.args.words.now c.args.types.now c.loop-place.place c.loop-place.found _ over c.loop-place.invariant
