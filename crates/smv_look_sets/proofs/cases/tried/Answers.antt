use Rattle.std.proofs.Common.{◌≡◌, ◌∙◌, List, refl, subst, sym, true}
use Rattle.std.specs.List.{list_all}
use Rattle.smv_decide.specs.Leaves.{classes_in}
use Rattle.smv_decide.specs.Tasks.{case_in}
use Rattle.smv_proof.specs.declared.proof.KeptSet.{KeptSet}
use Rattle.smv_proof.specs.Documents.{is_set}
use Rattle.law_checked_proofs.specs.Cases.{cases_from}
use Rattle.smv_kept_cases.specs.Tried.{IsLeafTried}
use Rattle.smv_look_sets.proofs.cases.tried.Goals as goal

pub of-requires : goal.of-requires
of-requires c = subst (λ (sets : List KeptSet). list_all is_set sets ≡ true) (sym (c.as_slice.ensures ∙ c.new-nothing.ensures)) refl

pub returns : goal.returns
returns c =
    subst (λ (sets : List KeptSet). IsLeafTried sets c.args.budgets.nodes c.args.budgets.steps (cases_from c.args.unit.now (case_in c.args.task.now) 0 (classes_in c.args.cases.now)) c.in_ok-done.done.verdict c.in_ok-done.done.sets)
    (c.in_ok-old.ensures.sets ∙ (c.as_slice.ensures ∙ c.new-nothing.ensures)) c.in_ok-done.ensures.tried
