use Rattle.std.proofs.Common.{◌∙◌, ap, subst, List}
use Rattle.smv_core.specs.declared.flat.Class.{Class}
use Rattle.smv_decide.specs.Leaves.{classes_in}
use Rattle.smv_decide.specs.Tasks.{case_in}
use Rattle.smv_plan_reports.proofs.PlanLaws.{cases_are}
use Rattle.law_checked_proofs.specs.Cases.{cases_from}
use Rattle.smv_kept_cases.specs.Tried.{IsLeafTried}
use Rattle.smv_resume.proofs.RoomLaws.{few_cases}
use Rattle.smv_resume.proofs.leaf.try_leaf.Goals as goal

pub try_cases-requires-clause-cases : goal.try_cases-requires-clause-cases
try_cases-requires-clause-cases c =
    cases_are c.args.task.now.design.now c.args.task.now.leaf.now c.args.task.now.choice.now c.as_slice.result.now c.requires.room (ap classes_in c.as_slice.ensures ∙ c.in-Ok.ensures.cases)

pub try_cases-requires-clause-few : goal.try_cases-requires-clause-few
try_cases-requires-clause-few c = few_cases c.args.task.now.design.now c.args.task.now.leaf.now c.args.task.now.choice.now c.as_slice.result.now c.requires.room (ap classes_in c.as_slice.ensures ∙ c.in-Ok.ensures.cases)

pub returns-in_ok-done-in-Ok-clause-tried : goal.returns-in_ok-done-in-Ok-clause-tried
returns-in_ok-done-in-Ok-clause-tried c =
    subst (λ (cases : List (List Class)). IsLeafTried c.args.old.now.sets.now c.args.budgets.nodes c.args.budgets.steps (cases_from c.args.unit.now (case_in c.args.task.now) 0 cases) c.in_ok-done-in-Ok.done.verdict c.in_ok-done-in-Ok.done.sets)
    (ap classes_in c.as_slice.ensures ∙ c.in-Ok.ensures.cases) c.in_ok-done-in-Ok.ensures.tried
