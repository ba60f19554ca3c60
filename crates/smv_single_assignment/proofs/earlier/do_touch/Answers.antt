use Rattle.std.proofs.Common.{◌≡◌, ◌<◌, length, get_or, subst, arith}
use Rattle.std.specs.Prelude.{slice_get, Some}
use Rattle.law_lists.proofs.Places.{get_there}
use Rattle.law_designs.specs.Standing.{Standing}
use Rattle.smv_single_assignment.specs.Links.{held, IsBehind}
use Rattle.smv_single_assignment.proofs.LinkLaws.{held-length}
use Rattle.smv_single_assignment.proofs.EarlierLaws.{kind-here}
use Rattle.smv_single_assignment.proofs.TouchLaws.{told, untouched-more, untouched-apart}
use Rattle.smv_single_assignment.proofs.earlier.do_touch.Goals as goal
use Rattle.smv_single_assignment.proofs.earlier.do_touch.Goals.{else-start-last-via-then-start-last+else-last-middle, else-start-last-via-else-start-last}

pub loop-place-preserved : goal.loop-place-preserved
loop-place-preserved c =
    let t = c.args.table.now in
    let all = held t in
    let i = c.loop-place.place in
    let lt : i < length all = omega (arith, c.loop-place-test.true, held-length t.all.items) in
    let b : Standing = (get_there all i lt).0 in
    let got : slice_get all i ≡ Some b = (get_there all i lt).1 in
    let last = get_or c.links_of.result.now i 0 in
    let behind : IsBehind all t.classes.items b.kind (get_or t.classes.items i 0) i last =
    subst (λ k. IsBehind all t.classes.items k (get_or t.classes.items i 0) i last) (kind-here t.all.items i c.index.result.now b lt c.index.ensures got) (told t c.requires.0 c.requires.1 c.index.result.now.kind c.links_of.result.now c.links_of.ensures i lt) in
    untouched-more all t.classes.items c.args.start c.args.middle i last b got c.loop-place.auto.place behind
    (λ high near. elim c.else-start-last.branch [ else-start-last-via-then-start-last+else-last-middle w ↦ absurd (omega (arith, w.if-last-middle.false, near)) | else-start-last-via-else-start-last w ↦ absurd (omega (arith, w.if-start-last.false, high)) ])
    c.loop-place.invariant

pub returns : goal.returns
returns c = λ e.
    let t = c.args.table.now in
    untouched-apart (held t) t.classes.items c.args.start c.args.middle c.requires.0 c.args.end c.loop-place.place c.requires.1.classed (λ j le lt. omega (arith, le, lt, c.loop-place-test.false, held-length t.all.items)) c.loop-place.invariant
