-- A plan between the calls that read a text and those that decide plans.
use Rattle.std.specs.Prelude.{◌≡◌, ℕ, List}
use Rattle.smv_core.specs.declared.tree.Text.{Text}
use Rattle.law_obligations.specs.Units.{script_of}
use Rattle.smv_problem.specs.declared.report.Plan.{Plan}
use Rattle.smv_plan_reports.specs.Reports.{IsValid, script_of_tree}
use Rattle.smv_plan_reports.specs.Rooms.{IsWholePlan}

-- the text is valid, the plan is as the calls that decide plans take it, and its script is that of the text
pub record IsReady (text : List ℕ) (plan : Plan) : Type 0 where
  pub tree : Text
  pub is_valid : IsValid text tree
  pub is_whole : IsWholePlan plan
  pub is_script : script_of plan.design plan.leaves plan.choices ≡ script_of_tree tree
