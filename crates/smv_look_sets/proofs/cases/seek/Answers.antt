use Rattle.std.proofs.Common.{◌∙◌, ap, subst, List}
use Rattle.smv_core.specs.declared.flat.Class.{Class}
use Rattle.smv_decide.specs.Leaves.{classes_in}
use Rattle.smv_decide.specs.Tasks.{case_in}
use Rattle.smv_plan_reports.proofs.PlanLaws.{cases_are}
use Rattle.law_checked_proofs.specs.Cases.{cases_from}
use Rattle.smv_look_sets.specs.Sought.{IsSought}
use Rattle.smv_look_sets.proofs.PlaceLaws.{few_cases}
use Rattle.smv_look_sets.proofs.cases.seek.Goals as goal

pub among-requires-clause-cases : goal.among-requires-clause-cases
among-requires-clause-cases c =
    cases_are c.args.task.now.design.now c.args.task.now.leaf.now c.args.task.now.choice.now c.as_slice.result.now c.requires.room (ap classes_in c.as_slice.ensures ∙ c.in-Ok.ensures.cases)

pub among-requires-clause-few : goal.among-requires-clause-few
among-requires-clause-few c = few_cases c.args.task.now.design.now c.args.task.now.leaf.now c.args.task.now.choice.now c.as_slice.result.now c.requires.room (ap classes_in c.as_slice.ensures ∙ c.in-Ok.ensures.cases)

pub returns-in_ok-sought-in-Ok : goal.returns-in_ok-sought-in-Ok
returns-in_ok-sought-in-Ok c =
    subst (λ (cases : List (List Class)). IsSought c.args.budgets.nodes c.args.budgets.steps (cases_from c.args.unit.now (case_in c.args.task.now) 0 cases) c.args.case c.in_ok-sought-in-Ok.sought)
    (ap classes_in c.as_slice.ensures ∙ c.in-Ok.ensures.cases) c.in_ok-sought-in-Ok.ensures
