-- What is decided of the plan of a text is decided of the text.
use Rattle.std.proofs.Common.{◌≡◌, ℕ, List, refl, subst}
use Rattle.smv_bits.specs.declared.Bits.{Bits}
use Rattle.law_obligations.specs.Outlines.{Script}
use Rattle.law_obligations.specs.Units.{script_of}
use Rattle.law_answers.specs.Dues.{default_bits, default_nodes, default_steps}
use Rattle.law_reports.specs.Reports.{AreResultsFrom, IsReportOf}
use Rattle.law_valid_texts.specs.Faultless.{script_of_plan}
use Rattle.law_valid_texts.specs.Reports.{IsRightReport, script_of_tree}
use Rattle.smv_problem.specs.declared.problem.AbsValue.{AbsValue}
use Rattle.smv_problem.specs.declared.report.Plan.{Plan}
use Rattle.smv_problem.specs.declared.report.Report.{Report}
use Rattle.smv_problem.specs.declared.report.UnitResult.{UnitResult}
use Rattle.smv_read_design.specs.Answers.{HasPlan}
use Rattle.smv_look_command.specs.declared.queries.Query.{Query}
use Rattle.smv_look_command.specs.declared.queries.Query.TheVariants as query
use Rattle.smv_look_reports.specs.Allowed.{AreAllowedByAll}
use Rattle.smv_look_reports.specs.Explained.{are_all_true, explain_lines}
use Rattle.smv_look_run.specs.declared.Status.{Status}
use Rattle.smv_look_run.specs.Dues.{IsDue, report_status, reported}

right : (text : List ℕ) (plan : Plan) → HasPlan text plan → (bits : Bits) (nodes steps : ℕ) (results : List UnitResult) → AreResultsFrom (script_of plan.design plan.leaves plan.choices) bits nodes steps 0 (script_of plan.design plan.leaves plan.choices).entries results →
    IsRightReport text bits nodes steps (record { design = plan.design; units = results })
right text plan (tree, valid, is) bits nodes steps results are =
    let same : script_of plan.design plan.leaves plan.choices ≡ script_of_tree tree = λ i. script_of (is.design i) (is.leaves i) (is.choices i) in
    (tree, valid, subst (λ (s : Script). IsReportOf s bits nodes steps (record { design = plan.design; units = results })) same (record { design = refl; units = are }))

pub due_report : (asked : Query) (text : List ℕ) (plan : Plan) → HasPlan text plan → (results : List UnitResult) (allowed : List (List AbsValue)) (due : Status) (answer : List ℕ) → asked ≡ query.Explain →
    AreResultsFrom (script_of plan.design plan.leaves plan.choices) default_bits default_nodes default_steps 0 (script_of plan.design plan.leaves plan.choices).entries results →
    AreAllowedByAll (script_of_plan plan) results allowed → due ≡ report_status (are_all_true results) → answer ≡ explain_lines plan (record { design = plan.design; units = results }) allowed → IsDue asked text due answer
due_report asked text plan has results allowed due answer is are told e f =
    rw is (rw e (rw f (reported plan (record { design = plan.design; units = results }) allowed has (right text plan has default_bits default_nodes default_steps results are) told)))
