-- The plan of a valid text is ready to be decided.
use Rattle.std.proofs.Common.{◌≡◌, ℕ, List, IfOk, Result, Ok, Err}
use Rattle.smv_core.specs.declared.fault.Refusal.{Refusal}
use Rattle.smv_core.specs.declared.tree.Text.{Text}
use Rattle.law_obligations.specs.Units.{script_of}
use Rattle.smv_problem.specs.declared.report.Plan.{Plan}
use Rattle.smv_plans.specs.Plans.{IsPlan}
use Rattle.smv_read_design.specs.Joined.{flat_design}
use Rattle.smv_plan_reports.specs.Reports.{script_of_tree}
use Rattle.smv_read_design.specs.ReadPlanLaws.{PlansOfValidTextsAreWhole}
use Rattle.smv_read_design.specs.Answers.{HasPlan}
use Rattle.smv_prove.specs.Ready.{IsReady}

same_script : (tree : Text) (plan : Plan) → IsPlan (flat_design tree) plan → script_of plan.design plan.leaves plan.choices ≡ script_of_tree tree
same_script tree plan is = λ i. script_of (is.design i) (is.leaves i) (is.choices i)

pub ready : PlansOfValidTextsAreWhole → (text : List ℕ) (plan : Plan) → HasPlan text plan → IsReady text plan
ready whole text plan (tree, valid, is) = record { tree = tree; is_valid = valid; is_whole = whole text tree valid plan is; is_script = same_script tree plan is }

pub if_ready : PlansOfValidTextsAreWhole → (text : List ℕ) (result : Result Plan Refusal) → IfOk result (HasPlan text) → IfOk result (IsReady text)
if_ready whole text (Ok plan) has = ready whole text plan has
if_ready whole text (Err e) has = tt
