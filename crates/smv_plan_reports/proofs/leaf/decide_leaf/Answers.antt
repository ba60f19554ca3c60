use Rattle.std.proofs.Common.{◌∙◌, ap, subst, List}
use Rattle.smv_core.specs.declared.flat.Class.{Class}
use Rattle.law_reports.specs.Told.{IsToldBy}
use Rattle.smv_decide.specs.Leaves.{classes_in}
use Rattle.smv_decide.specs.Tasks.{case_in}
use Rattle.smv_plan_reports.proofs.PlanLaws.{cases_are}
use Rattle.smv_plan_reports.proofs.leaf.decide_leaf.Goals as goal

pub decide_cases-requires-clause-cases : goal.decide_cases-requires-clause-cases
decide_cases-requires-clause-cases c =
    cases_are c.args.task.now.design.now c.args.task.now.leaf.now c.args.task.now.choice.now c.as_slice.result.now c.requires.room (ap classes_in c.as_slice.ensures ∙ c.in-Ok.ensures.cases)

pub returns-in_ok-told-in-Ok-clause-told : goal.returns-in_ok-told-in-Ok-clause-told
returns-in_ok-told-in-Ok-clause-told c =
    subst (λ (cases : List (List Class)). IsToldBy (case_in c.args.task.now) c.args.bits c.args.budgets.nodes c.args.budgets.steps cases c.in_ok-told-in-Ok.told.verdict) (ap classes_in c.as_slice.ensures ∙ c.in-Ok.ensures.cases) c.in_ok-told-in-Ok.ensures.told
