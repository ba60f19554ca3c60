use Rattle.law_reports.specs.Verdicts.{IsVerdictFor}
use Rattle.smv_concrete.specs.Subjects.{case_in}
use Rattle.smv_decide.proofs.Told.{none_true, Has_at, next_true, told_here, told_all}
use Rattle.smv_confirm.proofs.cases.decide_cases.Goals as goal

pub loop-case-init : goal.loop-case-init
loop-case-init c = record {
  shared = c.requires.shared;
  are_true = none_true (IsVerdictFor (case_in c.args.subject.now) c.args.bits c.args.budgets.nodes c.args.budgets.steps);
}

pub decide_case-requires-clause-case : goal.decide_case-requires-clause-case
decide_case-requires-clause-case c = c.requires.cases.are_cases c.case-item.result (Has_at c.args.cases.now c.loop-case.case-index c.case-item.result c.loop-case-test.true c.case-item.is)

pub decide_case-requires-clause-width : goal.decide_case-requires-clause-width
decide_case-requires-clause-width c = c.requires.cases.have_width c.case-item.result (Has_at c.args.cases.now c.loop-case.case-index c.case-item.result c.loop-case-test.true c.case-item.is)

pub returns-in-Some : goal.returns-in-Some
returns-in-Some c = told_here (case_in c.args.subject.now) c.args.bits c.args.budgets.nodes c.args.budgets.steps c.args.cases.now c.loop-case.case-index c.case-item.result c.loop-case-test.true c.case-item.is c.in_ok-decided.decided.decision c.in_ok-decided.ensures.decided c.loop-case.invariant.are_true c.in_ok-verdict.verdict c.in_ok-verdict.ensures c.in-Some.verdict c.in-Some.is

pub loop-case-preserved : goal.loop-case-preserved
loop-case-preserved c = record {
  shared = c.in_ok-decided.ensures.shared;
  are_true = next_true (case_in c.args.subject.now) c.args.bits c.args.budgets.nodes c.args.budgets.steps c.args.cases.now c.loop-case.case-index c.case-item.result c.loop-case-test.true c.case-item.is c.in_ok-decided.decided.decision c.in_ok-decided.ensures.decided c.loop-case.invariant.are_true c.in_ok-verdict.verdict c.in_ok-verdict.ensures c.in-None.is;
}

pub returns : goal.returns
returns c = told_all (case_in c.args.subject.now) c.args.bits c.args.budgets.nodes c.args.budgets.steps c.args.cases.now c.loop-case.case-index c.loop-case-test.false c.loop-case.invariant.are_true
