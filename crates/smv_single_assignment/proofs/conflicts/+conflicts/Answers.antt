use Rattle.std.proofs.Common.{◌∙◌, ap, refl}
use Rattle.smv_mentions.specs.Scopes.{first_of_places}
use Rattle.law_designs.specs.Standing.{standing}
use Rattle.law_designs.specs.SingleFaults.{conflicts, cross}
use Rattle.smv_single_assignment.specs.Links.{held}
use Rattle.smv_single_assignment.proofs.WalkLaws.{two-walked, part-walked, of-If, of-Default, of-Block, of-Forall}
use Rattle.smv_single_assignment.specs.Shared.{AreInside}
use Rattle.smv_single_assignment.proofs.SharedLaws.{standing-inside}
use Rattle.smv_single_assignment.proofs.conflicts.+conflicts.Goals as goal

pub block-loop-part-preserved : goal.block-loop-part-preserved
block-loop-part-preserved t c = λ stands.
    part-walked (held c.args.table.now) (conflicts c.args.layer c.args.around.now) (standing c.args.layer c.args.around.now) c.args.start c.args.parts.now stands
    c.loop-part.part-index c.part-item.result (record { found = c.loop-part.found; end = c.loop-part.end }) c.in_ok-walked.walked (record { found = c.first_of-found.result; end = c.in_ok-walked.walked.end }) c.first_meeting-met.result
    c.loop-part-test.true c.part-item.is (c.loop-part.invariant stands) c.in_ok-walked.ensures c.first_meeting-met.ensures (c.first_of-found.ensures ∙ ap (first_of_places c.loop-part.found) c.first_of.ensures) refl

pub statement-returns-in_ok-second-in-If : goal.statement-returns-in_ok-second-in-If
statement-returns-in_ok-second-in-If t c =
    let layer = c.args.layer in
    let around = c.args.around.now in
    let all = held c.args.table.now in
    let l = c.get.result.now in
    let r = c.get-in-If.result.now in
    of-If all layer around c.args.start c.branches.result c.args.x.now l r c.in-If.yes c.in-If.no c.in-If.cond c.in-If.is c.get.ensures c.get-in-If.ensures
    (λ stands. two-walked all (cross around) (AreInside around) c.args.start (conflicts layer around l) (conflicts layer around r) (standing layer around l) (standing layer around r) c.in_ok-first-in-If.first c.in_ok-second-in-If.second c.branches.result (standing-inside layer around l) (standing-inside layer around r) stands
    c.in_ok-first-in-If.ensures c.in_ok-second-in-If.ensures c.branches.ensures.found c.branches.ensures.end)

pub statement-returns-in-Block : goal.statement-returns-in-Block
statement-returns-in-Block t c =
    of-Block (held c.args.table.now) c.args.layer c.args.around.now c.args.start c.block.result c.args.x.now c.as_slice.result.now c.in-Block.parts c.in-Block.is c.as_slice.ensures c.block.ensures

pub statement-returns-in_ok-second-in-Default : goal.statement-returns-in_ok-second-in-Default
statement-returns-in_ok-second-in-Default t c =
    let layer = c.args.layer in
    let around = c.args.around.now in
    let all = held c.args.table.now in
    let l = c.get-in-Default.result.now in
    let r = c.get-in-Default-2.result.now in
    of-Default all layer around c.args.start c.branches-in-Default.result c.args.x.now l r c.in-Default.first c.in-Default.second c.in-Default.is c.get-in-Default.ensures c.get-in-Default-2.ensures
    (λ stands. two-walked all (cross around) (AreInside around) c.args.start (conflicts layer around l) (conflicts layer around r) (standing layer around l) (standing layer around r) c.in_ok-first-in-Default.first c.in_ok-second-in-Default.second c.branches-in-Default.result (standing-inside layer around l) (standing-inside layer around r) stands
    c.in_ok-first-in-Default.ensures c.in_ok-second-in-Default.ensures c.branches-in-Default.ensures.found c.branches-in-Default.ensures.end)

pub statement-returns-in_ok-inner-in-Forall : goal.statement-returns-in_ok-inner-in-Forall
statement-returns-in_ok-inner-in-Forall t c =
    of-Forall (held c.args.table.now) c.args.layer c.args.around.now c.args.start c.statement-in-Forall.result c.args.x.now c.get-in-Forall.result.now c.in-Forall.body c.in-Forall.var c.in-Forall.over c.as_slice-in-Forall.result.now
    c.in-Forall.is c.get-in-Forall.ensures (c.as_slice-in-Forall.ensures.value ∙ c.in_ok-inner-in-Forall.ensures) c.statement-in-Forall.ensures
