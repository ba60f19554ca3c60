use Rattle.std.proofs.Common.{IfOk, List, subst, sym}
use Rattle.law_problems.specs.Parts.{case_with}
use Rattle.smv_problem.specs.declared.problem.AbsState.{AbsState}
use Rattle.smv_problem.specs.declared.problem.AbsValue.{AbsValue}
use Rattle.smv_problem.specs.declared.report.Verdict.{Verdict}
use Rattle.smv_look_allowed.specs.Allowed.{AreAllowed}
use Rattle.smv_look_reports.specs.Allowed.{AreAllowedBy}
use Rattle.smv_look_reports.proofs.allowed.values_by.Goals as goal

pub returns-in-False : goal.returns-in-False
returns-in-False c =
    subst (λ (verdict : Verdict). IfOk c.allowed_values.result (λ (values : List AbsValue). AreAllowedBy (case_with c.args.design.now c.args.leaf.now c.args.choice.now c.args.timed.now) verdict values)) (sym c.in-False.is)
    (subst (λ (path : List AbsState). IfOk c.allowed_values.result (λ (values : List AbsValue). AreAllowed (case_with c.args.design.now c.args.leaf.now c.args.choice.now c.args.timed.now c.in-False.case.classes) path values)) c.as_slice.ensures c.allowed_values.ensures)
