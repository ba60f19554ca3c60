use Rattle.std.proofs.Common.{List, Err, sym, ap, subst, ◌∙◌}
use Rattle.smv_core.specs.declared.flat.Leaf.{Leaf}
use Rattle.smv_core.specs.declared.flat.SetInfo.{SetInfo}
use Rattle.smv_core.specs.declared.flat.Unit.{Unit as DesignUnit}
use Rattle.law_concrete.specs.Sizes.{sizes_at, sizes_fault}
use Rattle.law_confirmed.specs.Confirmed.{IsToldAt}
use Rattle.law_problems.specs.Parts.{Refuses}
use Rattle.smv_problem.specs.declared.report.Verdict.{Verdict}
use Rattle.smv_chosen_table.specs.Tables.{AreBaseDefs}
use Rattle.smv_concrete.specs.Subjects.{whole_types}
use Rattle.smv_confirm.specs.Ready.{unit_at}
use Rattle.smv_confirm.specs.declared.subjects.Told.{Told}
use Rattle.smv_confirm.proofs.Given.{refused-same}
use Rattle.smv_confirm.proofs.Plans.{params-of, unit-of}
use Rattle.smv_confirm.proofs.subjects.tell.Goals as goal

pub tell_subject-requires-clause-subject : goal.tell_subject-requires-clause-subject
tell_subject-requires-clause-subject c = record {
  units = c.as_slice-4.ensures ∙ c.requires.ready.is_whole.units;
  params = params-of c.args.plan.now c.requires.ready.is_whole c.args.place c.requires.place c.as_slice-4.result.now c.in_ok-leaf.leaf c.as_slice-4.ensures c.in_ok-leaf.ensures;
  guards = ap (λ (x : Leaf). x.guards) c.in_ok-leaf.ensures;
  choice = c.nothing_used-choice.ensures;
  timed = c.no_times-timed.ensures;
  types = c.as_slice-5.ensures ∙ (c.in_ok-types.ensures ∙ ap (λ (sets : List SetInfo). whole_types sets c.args.sizes.now) c.as_slice.ensures);
  table = subst (AreBaseDefs c.args.plan.now.design) (sym c.as_slice-6.ensures.value) c.in_ok-table.ensures;
}

pub returns-in-Ok-clause-verdict : goal.returns-in-Ok-clause-verdict
returns-in-Ok-clause-verdict c =
    let d = c.args.plan.now.design in
    subst (λ (u : DesignUnit). IsToldAt d (sizes_at d.sets c.args.sizes.now) u c.args.bits c.args.budgets.nodes c.args.budgets.steps c.in-Ok.verdict)
    (unit-of c.args.plan.now c.requires.ready.is_whole c.args.place c.requires.place c.as_slice-4.result.now c.in_ok-leaf.leaf c.as_slice-4.ensures c.in_ok-leaf.ensures) c.in-Ok.ensures.verdict

pub returns-in-Ok-clause-refuses : goal.returns-in-Ok-clause-refuses
returns-in-Ok-clause-refuses c =
    let d = c.args.plan.now.design in
    sym (ap (λ (u : DesignUnit). sizes_fault d u c.args.sizes.now) (unit-of c.args.plan.now c.requires.ready.is_whole c.args.place c.requires.place c.as_slice-4.result.now c.in_ok-leaf.leaf c.as_slice-4.ensures c.in_ok-leaf.ensures))
    ∙ c.in-Ok.ensures.refuses

pub returns-in-Err-clause-refuses : goal.returns-in-Err-clause-refuses
returns-in-Err-clause-refuses c =
    let d = c.args.plan.now.design in
    refused-same Verdict Told (sizes_fault d (unit_at c.args.plan.now c.args.place) c.args.sizes.now) c.in-Err.refusal
    (subst (λ (u : DesignUnit). Refuses {A = Verdict} (sizes_fault d u c.args.sizes.now) (Err c.in-Err.refusal)) (unit-of c.args.plan.now c.requires.ready.is_whole c.args.place c.requires.place c.as_slice-4.result.now c.in_ok-leaf.leaf c.as_slice-4.ensures c.in_ok-leaf.ensures)
    c.in-Err.ensures.refuses)
