use Rattle.std.proofs.Common.{◌∙◌, ◌++◌, ap, subst, List}
use Rattle.smv_core.specs.declared.flat.Class.{Class}
use Rattle.smv_cases.specs.Slots.{classes_of}
use Rattle.law_checked_proofs.specs.Cases.{cases_from}
use Rattle.smv_check.specs.Progress.{IsLooked}
use Rattle.smv_check.specs.Tasks.{case_in}
use Rattle.smv_check.proofs.cases.look_at_leaf.Goals as goal

pub look_at_cases-requires-clause-cases : goal.look_at_cases-requires-clause-cases
look_at_cases-requires-clause-cases c = ap classes_of c.as_slice.ensures ∙ c.in-Ok.ensures.cases

pub returns-in_ok-looked-in-Ok-clause-looked : goal.returns-in_ok-looked-in-Ok-clause-looked
returns-in_ok-looked-in-Ok-clause-looked c = λ done passed.
    subst (λ (cases : List (List Class)). IsLooked (done ++ cases_from c.args.task.now.name.now (case_in c.args.task.now) 0 cases) c.args.task.now.sets.now c.in_ok-looked-in-Ok.looked)
    (ap classes_of c.as_slice.ensures ∙ c.in-Ok.ensures.cases) (c.in_ok-looked-in-Ok.ensures.looked done passed)
