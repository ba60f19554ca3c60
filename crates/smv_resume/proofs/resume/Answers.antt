use Rattle.std.proofs.Common.{◌≡◌, ◌∙◌, List, true, sym, subst, refl}
use Rattle.std.specs.List.{list_all}
use Rattle.smv_proof.specs.declared.proof.KeptSet.{KeptSet}
use Rattle.smv_proof.specs.Documents.{is_set}
use Rattle.smv_resume.proofs.KeptLaws.{old_are_sets, all_kept, all_written, open_kept, not_all}
use Rattle.smv_resume.proofs.resume.Goals as goal

pub of-requires : goal.of-requires
of-requires c = subst (λ (sets : List KeptSet). list_all is_set sets ≡ true) (sym c.as_slice.ensures) (old_are_sets c.args.old.now c.requires.old)

pub returns-in_ok-proof-clause-kept : goal.returns-in_ok-proof-clause-kept
returns-in_ok-proof-clause-kept c =
    all_kept c.args.old.now c.in_ok-sets.sets.sets.now (c.in_ok-sets.ensures.sets ∙ c.as_slice.ensures) c.args.budgets.nodes c.args.budgets.steps c.args.text.now c.in_ok-plan.plan c.in_ok-plan.ensures.plan c.in_ok-tried.tried.results c.as_slice-2.result.now c.as_slice-2.ensures c.in_ok-tried.tried.sets c.in_ok-tried.ensures
    (c.all_true.ensures.0 c.if-all_true.true) c.in_ok-proof.proof c.in_ok-proof.ensures.design c.in_ok-proof.ensures.sets

pub returns-in_ok-proof-clause-written : goal.returns-in_ok-proof-clause-written
returns-in_ok-proof-clause-written c = (
  all_written c.args.old.now c.in_ok-sets.sets.sets.now (c.in_ok-sets.ensures.sets ∙ c.as_slice.ensures) c.args.budgets.nodes c.args.budgets.steps c.args.text.now c.in_ok-plan.plan c.in_ok-plan.ensures.plan c.in_ok-tried.tried.results c.as_slice-2.result.now c.as_slice-2.ensures c.in_ok-tried.tried.sets c.in_ok-tried.ensures
      c.kept_proofs_are_proofs.ensures.resumed c.requires.old (c.all_true.ensures.0 c.if-all_true.true) c.in_ok-proof.proof c.in_ok-proof.ensures.design c.in_ok-proof.ensures.sets c.in_ok-proof.ensures.few,
  c.in_ok-proof.ensures.few,
)

pub returns-else-all_true-clause-kept : goal.returns-else-all_true-clause-kept
returns-else-all_true-clause-kept c = (
  open_kept c.args.old.now c.in_ok-sets.sets.sets.now (c.in_ok-sets.ensures.sets ∙ c.as_slice.ensures) c.args.budgets.nodes c.args.budgets.steps c.args.text.now c.in_ok-plan.plan c.in_ok-plan.ensures.plan c.in_ok-tried.tried.results c.as_slice-2.result.now c.as_slice-2.ensures c.in_ok-tried.tried.sets c.in_ok-tried.ensures _ refl refl,
  not_all c.args.old.now c.in_ok-sets.sets.sets.now (c.in_ok-sets.ensures.sets ∙ c.as_slice.ensures) c.args.budgets.nodes c.args.budgets.steps c.args.text.now c.in_ok-plan.plan c.in_ok-plan.ensures.plan c.in_ok-tried.tried.results c.as_slice-2.result.now c.as_slice-2.ensures c.in_ok-tried.tried.sets c.in_ok-tried.ensures c.all_true.result c.all_true.ensures c.if-all_true.false,
)
