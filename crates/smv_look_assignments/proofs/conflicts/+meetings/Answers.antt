use Rattle.std.proofs.Common.{◌≡◌, ◌∙◌, ℕ, List, map, ap, subst}
use Rattle.std.specs.Prelude.{IfOk}
use Rattle.smv_first_fault.specs.Firsts.{least}
use Rattle.law_designs.specs.Standing.{standing}
use Rattle.smv_single_assignment.specs.Held.{standing_of}
use Rattle.law_designs.specs.SingleFaults.{meet}
use Rattle.smv_look_assignments.specs.Assignments.{clashing, met}
use Rattle.smv_look_assignments.specs.Walks.{part_met}
use Rattle.smv_look_assignments.proofs.MetLaws.{along-end, along-step, of-Block, of-Default, of-Forall, of-If, two}
use Rattle.smv_look_assignments.proofs.conflicts.+meetings.Goals as goal

pub in_statement-returns-in_ok-between-in-If : goal.in_statement-returns-in_ok-between-in-If
in_statement-returns-in_ok-between-in-If t c =
    of-If c.args.at c.args.layer c.args.around.now c.args.x.now c.in-If.cond c.in-If.yes c.in-If.no c.get.result.now c.get-in-If.result.now c.get-in-If-2.result.now c.get-in-If-3.result.now
    c.in_ok-first-in-If.first c.in_ok-second-in-If.second c.in_ok-between-in-If.between c.first_of.result c.first_of-in-If.result c.in-If.is c.get.ensures c.get-in-If.ensures c.get-in-If-2.ensures c.get-in-If-3.ensures
    c.in_ok-first-in-If.ensures c.in_ok-second-in-If.ensures c.in_ok-between-in-If.ensures c.first_of.ensures c.first_of-in-If.ensures

pub in_statement-returns-in_ok-between-in-Default : goal.in_statement-returns-in_ok-between-in-Default
in_statement-returns-in_ok-between-in-Default t c =
    of-Default c.args.at c.args.layer c.args.around.now c.args.x.now c.in-Default.one c.in-Default.other c.get-in-Default.result.now c.get-in-Default-2.result.now c.get-in-Default-3.result.now c.get-in-Default-4.result.now
    c.in_ok-first-in-Default.first c.in_ok-second-in-Default.second c.in_ok-between-in-Default.between c.first_of-in-Default.result c.first_of-in-Default-2.result c.in-Default.is
    c.get-in-Default.ensures c.get-in-Default-2.ensures c.get-in-Default-3.ensures c.get-in-Default-4.ensures
    c.in_ok-first-in-Default.ensures c.in_ok-second-in-Default.ensures c.in_ok-between-in-Default.ensures c.first_of-in-Default.ensures c.first_of-in-Default-2.ensures

pub in_statement-returns-in-Block : goal.in_statement-returns-in-Block
in_statement-returns-in-Block t c =
    subst (λ (l : List ℕ). IfOk c.block.result (λ found. found ≡ least l)) (of-Block c.args.at c.args.layer c.args.around.now c.args.x.now c.in-Block.parts c.as_slice.result.now c.in-Block.is c.as_slice.ensures) c.block.ensures

pub in_statement-returns-in_ok-inner-in-Forall : goal.in_statement-returns-in_ok-inner-in-Forall
in_statement-returns-in_ok-inner-in-Forall t c =
    subst (λ (l : List ℕ). IfOk c.in_statement-in-Forall.result (λ found. found ≡ least l))
    (of-Forall c.args.at c.args.layer c.args.around.now c.args.x.now c.in-Forall.var c.in-Forall.over c.in-Forall.body c.get-in-Forall.result.now c.as_slice-in-Forall.result.now
    c.in-Forall.is c.get-in-Forall.ensures (c.as_slice-in-Forall.ensures.value ∙ c.in_ok-inner-in-Forall.ensures))
    c.in_statement-in-Forall.ensures

pub block-loop-part-preserved : goal.block-loop-part-preserved
block-loop-part-preserved t c =
    along-step (part_met c.args.at c.args.layer c.args.around.now) (standing c.args.layer c.args.around.now) c.args.parts.now c.loop-part.part-index c.part-item.result
    (map standing_of c.as_slice.result.now) (map standing_of c.loop-part.before.items) (map standing_of c.statement.new.out.items) c.loop-part.found c.first_of.result c.first_of-found.result _
    c.loop-part-test.true c.part-item.is (ap (map standing_of) c.as_slice.ensures.value)
    (two (met c.args.at c.args.layer c.args.around.now c.part-item.result) (clashing c.args.at meet (map standing_of c.as_slice.result.now) (standing c.args.layer c.args.around.now c.part-item.result))
    c.in_ok-within.within c.in_ok-met.met c.first_of.result c.in_ok-within.ensures c.in_ok-met.ensures c.first_of.ensures)
    c.first_of-found.ensures c.in_ok-statement.ensures c.loop-part.invariant

pub block-returns : goal.block-returns
block-returns t c =
    along-end (part_met c.args.at c.args.layer c.args.around.now) (standing c.args.layer c.args.around.now) c.args.parts.now c.loop-part.part-index (map standing_of c.loop-part.before.items) c.loop-part.found _ c.loop-part-test.false c.loop-part.invariant
