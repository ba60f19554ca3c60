use Rattle.std.proofs.Common.{◌∙◌, ap, subst, List}
use Rattle.smv_core.specs.declared.flat.Class.{Class}
use Rattle.smv_decide.specs.Leaves.{classes_in}
use Rattle.smv_decide.specs.Tasks.{case_in}
use Rattle.smv_plan_reports.proofs.PlanLaws.{cases_are}
use Rattle.smv_look_aiger.specs.Models.{IsModel}
use Rattle.smv_look_aiger.proofs.tasks.model_of.Goals as goal

pub among-requires-clause-cases : goal.among-requires-clause-cases
among-requires-clause-cases c =
    cases_are c.args.task.now.design.now c.args.task.now.leaf.now c.args.task.now.choice.now c.as_slice.result.now c.requires.room (ap classes_in c.as_slice.ensures ∙ c.in-Ok.ensures.cases)

pub returns-in_ok-model-in-Ok : goal.returns-in_ok-model-in-Ok
returns-in_ok-model-in-Ok c =
    subst (λ (cases : List (List Class)). IsModel (case_in c.args.task.now) cases c.args.number c.in_ok-model-in-Ok.model)
    (ap classes_in c.as_slice.ensures ∙ c.in-Ok.ensures.cases) c.in_ok-model-in-Ok.ensures
