use Rattle.std.proofs.Common.{◌≡◌, ◌<◌, ◌+◌, ◌-◌, length, get_or, false, sym, ◌∙◌, arith}
use Rattle.std.specs.Prelude.{slice_get, Some}
use Rattle.law_lists.proofs.Places.{get_there}
use Rattle.law_designs.specs.Standing.{Standing}
use Rattle.smv_single_assignment.specs.Clashes.{clashes_of}
use Rattle.smv_single_assignment.specs.Links.{held}
use Rattle.smv_single_assignment.proofs.LinkLaws.{between-true, between-false}
use Rattle.smv_single_assignment.proofs.EarlierLaws.{clear-start, clear-step}
use Rattle.smv_single_assignment.proofs.TouchLaws.{told}
use Rattle.smv_single_assignment.proofs.earlier.has_earlier_of.Goals as goal
use Rattle.smv_single_assignment.proofs.earlier.has_earlier_of.Goals.{else-earlier-middle-via-then-earlier-middle+else-is_clash, else-earlier-middle-via-else-earlier-middle}

pub loop-end-init : goal.loop-end-init
loop-end-init c =
    let t = c.args.table.now in
    let i = c.args.place in
    let table = c.requires.table.1 in
    let behind = told t c.requires.table.0 table c.args.kind c.links_of-links.result.now c.links_of-links.ensures i c.requires.within in
    record { before = behind.before; here = behind.here; apart = clear-start (held t) t.classes.items c.requires.table.0 c.args.kind c.args.by table.classed i c.args.middle (get_or c.links_of-links.result.now i 0) c.requires.order behind }

pub returns-then-is_clash : goal.returns-then-is_clash
returns-then-is_clash c = λ b got.
    let t = c.args.table.now in
    let i = c.loop-end.end - 1 in
    let below : i < length (held t) = omega (arith, c.loop-end-test.true, c.loop-end.invariant.before, c.requires.within) in
    let a : Standing = (get_there (held t) i below).0 in
    let there : slice_get (held t) i ≡ Some a = (get_there (held t) i below).1 in
    sym (between-true (clashes_of c.args.kind c.args.by b) c.args.start c.args.middle (held t) i a there (omega (arith, c.loop-end-test.true)) c.if-earlier-middle.true (sym (c.is_clash.ensures a b there got) ∙ c.if-is_clash.true))

pub loop-end-preserved : goal.loop-end-preserved
loop-end-preserved c =
    let t = c.args.table.now in
    let i = c.loop-end.end - 1 in
    let table = c.requires.table.1 in
    let below : i < length (held t) = omega (arith, c.loop-end-test.true, c.loop-end.invariant.before, c.requires.within) in
    let behind = told t c.requires.table.0 table c.args.kind c.links_of-links.result.now c.links_of-links.ensures i below in
    let some : 0 < c.loop-end.end = omega (arith, c.loop-end-test.true) in
    let same = c.loop-end.invariant.here some in
    let back : c.loop-end.end ≡ i + 1 = omega (arith, some) in
    let apart : i < c.args.middle → (a b : Standing) → slice_get (held t) i ≡ Some a → slice_get (held t) c.args.place ≡ Some b → clashes_of c.args.kind c.args.by b a ≡ false = λ lt a b there got.
    elim c.else-earlier-middle.branch [ else-earlier-middle-via-then-earlier-middle+else-is_clash w ↦ sym (w.is_clash.ensures a b there got) ∙ w.if-is_clash.false | else-earlier-middle-via-else-earlier-middle w ↦ absurd (omega (arith, w.if-earlier-middle.false, lt)) ] in
    record {
      before = omega (arith, behind.before, c.loop-end.invariant.before);
      here = λ h. behind.here h ∙ same;
      apart = clear-step (held t) t.classes.items c.requires.table.0 c.args.kind c.args.by table.classed c.args.place c.args.middle i (get_or c.links_of-links.result.now i 0) behind same apart
          (λ k a b there got from before. c.loop-end.invariant.apart k a b there got (omega (arith, from, back)) before);
    }

pub returns : goal.returns
returns c = λ b got.
    let t = c.args.table.now in
    sym (between-false (clashes_of c.args.kind c.args.by b) c.args.start c.args.middle (held t) (λ k a there from before. c.loop-end.invariant.apart k a b there got (omega (arith, from, c.loop-end-test.false)) before))
