use Rattle.std.proofs.Common.{Some, None, subst}
use Rattle.law_lists.proofs.Options.{some_is}
use Rattle.smv_plan_reports.specs.Reports.{IsUnitReport}
use Rattle.smv_prove.proofs.NamedLaws.{found_among, is_below, is_none, is_reported}
use Rattle.smv_prove.proofs.prove_one.Goals as goal

pub prove_unit-requires-clause-there : goal.prove_unit-requires-clause-there
prove_unit-requires-clause-there c =
    is_below c.args.text.now c.in_ok-plan.plan c.in_ok-plan.ensures.plan c.args.name.now c.in-Some.u
    (found_among c.in_ok-plan.plan.design c.args.name.now c.in_ok-plan.plan.units c.as_slice.result.now c.in_ok-place.place (Some c.in-Some.u) c.as_slice.ensures c.in_ok-place.ensures c.in-Some.is)

pub returns-in_ok-report-in-Some-clause-report : goal.returns-in_ok-report-in-Some-clause-report
returns-in_ok-report-in-Some-clause-report c = λ report same.
    subst (IsUnitReport c.args.text.now c.args.name.now c.args.bits c.args.budgets.nodes c.args.budgets.steps) (some_is same)
    (is_reported c.args.text.now c.in_ok-plan.plan c.in_ok-plan.ensures.plan c.args.name.now c.args.bits c.args.budgets.nodes c.args.budgets.steps c.in-Some.u
    (found_among c.in_ok-plan.plan.design c.args.name.now c.in_ok-plan.plan.units c.as_slice.result.now c.in_ok-place.place (Some c.in-Some.u) c.as_slice.ensures c.in_ok-place.ensures c.in-Some.is)
    c.in_ok-report-in-Some.report c.in_ok-report-in-Some.ensures)

pub returns-in-None-clause-none : goal.returns-in-None-clause-none
returns-in-None-clause-none c = λ same.
    is_none c.args.text.now c.in_ok-plan.plan c.in_ok-plan.ensures.plan c.args.name.now
    (found_among c.in_ok-plan.plan.design c.args.name.now c.in_ok-plan.plan.units c.as_slice.result.now c.in_ok-place.place None c.as_slice.ensures c.in_ok-place.ensures c.in-None.is)
