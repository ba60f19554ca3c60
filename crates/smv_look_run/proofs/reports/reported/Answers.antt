use Rattle.std.proofs.Common.{◌∙◌, List, ap, subst}
use Rattle.law_valid_texts.specs.Faultless.{script_of_plan}
use Rattle.smv_problem.specs.declared.problem.AbsValue.{AbsValue}
use Rattle.smv_problem.specs.declared.report.UnitResult.{UnitResult}
use Rattle.smv_look_reports.specs.Allowed.{AreAllowedByAll}
use Rattle.smv_look_reports.specs.Explained.{are_all_true, explain_lines}
use Rattle.smv_look_run.specs.Dues.{report_status}
use Rattle.smv_look_run.proofs.PlanLaws.{all_timed_long}
use Rattle.smv_look_run.proofs.ReportLaws.{due_report}
use Rattle.smv_look_run.proofs.reports.reported.Goals as goal

pub allowed_by_all-requires-clause-timed : goal.allowed_by_all-requires-clause-timed
allowed_by_all-requires-clause-timed c = all_timed_long c.args.plan.now c.requires.whole

pub explain_lines-requires-clause-timed : goal.explain_lines-requires-clause-timed
explain_lines-requires-clause-timed c = all_timed_long c.args.plan.now c.requires.whole

pub returns : goal.returns
returns c =
    due_report c.args.query.now c.args.text.now c.args.plan.now c.requires.plan c.in_ok-decided.decided c.in_ok-allowed.allowed _ c.in_ok-bytes.bytes.items c.requires.asks c.in_ok-decided.ensures
    (subst (λ (rs : List UnitResult). AreAllowedByAll (script_of_plan c.args.plan.now) rs c.in_ok-allowed.allowed) c.as_slice-told.ensures c.in_ok-allowed.ensures)
    (c.report_status-status.ensures ∙ ap report_status (c.are_all_true.ensures ∙ ap are_all_true c.as_slice-told.ensures))
    (c.in_ok-bytes.ensures
    ∙ (ap (λ (rs : List UnitResult). explain_lines c.args.plan.now (record { design = c.args.plan.now.design; units = rs }) c.as_slice.result.now) c.as_slice-told.ensures
    ∙ ap (λ (allowed : List (List AbsValue)). explain_lines c.args.plan.now (record { design = c.args.plan.now.design; units = c.in_ok-decided.decided }) allowed) c.as_slice.ensures))
