use Rattle.std.proofs.Common.{◌<◌, ◌∙◌, ◌++◌, List, length, sym, ap, subst, arith}
use Rattle.smv_core.specs.declared.flat.Unit.{Unit}
use Rattle.law_obligations.specs.Units.{script_of}
use Rattle.smv_unit_tables.specs.Bases.{AreBases}
use Rattle.smv_chosen_table.specs.Tables.{IsIndex}
use Rattle.smv_plan_reports.proofs.PlanLaws.{entries_long}
use Rattle.smv_proof.specs.declared.proof.KeptSet.{KeptSet}
use Rattle.smv_resume.specs.Units.{ArePlanTried}
use Rattle.smv_resume.proofs.UnitLaws.{no_units, next_unit, all_units}
use Rattle.smv_resume.proofs.units.try_units.Goals as goal

pub base_defs-requires : goal.base_defs-requires
base_defs-requires c = subst (AreBases c.args.plan.now.design) (sym c.as_slice-2.ensures.value) c.in_ok-index.ensures.bases

pub try_unit-requires-clause-index : goal.try_unit-requires-clause-index
try_unit-requires-clause-index c = subst (λ (units : List Unit). IsIndex c.args.plan.now.design units c.in_ok-index.index) c.as_slice.ensures c.in_ok-index.ensures

pub loop-u-init : goal.loop-u-init
loop-u-init c = record {
  tried = no_units c.args.old.now.sets.now c.args.budgets.nodes c.args.budgets.steps (script_of c.args.plan.now.design c.args.plan.now.leaves c.args.plan.now.choices) (script_of c.args.plan.now.design c.args.plan.now.leaves c.args.plan.now.choices).entries
      c.new-results.result c.new-sets.result.items c.new-results.ensures c.new-sets.ensures.items;
  shared = c.in_ok-common.ensures;
  table = c.in_ok-table.ensures;
}

pub loop-u-preserved : goal.loop-u-preserved
loop-u-preserved c = record {
  tried =
      let below : c.loop-u.u < length (script_of c.args.plan.now.design c.args.plan.now.leaves c.args.plan.now.choices).entries =
      let test = c.loop-u-test.true in
      let end = c.len-u-end.ensures in
      let long = entries_long c.args.plan.now c.requires.plan in
      omega (arith, test, end, long) in
      next_unit c.args.old.now.sets.now c.args.budgets.nodes c.args.budgets.steps (script_of c.args.plan.now.design c.args.plan.now.leaves c.args.plan.now.choices) c.loop-u.u c.loop-u.results c.push.new.self c.loop-u.sets.items c.append.new.self.items
      c.in_ok-done.done.result c.in_ok-done.done.sets below c.loop-u.invariant.tried c.in_ok-done.ensures.tried c.in_ok-push.ensures.ok (c.in_ok-append.ensures.items ∙ ap (λ (more : List KeptSet). c.loop-u.sets.items ++ more) c.into_vec-more.ensures);
  shared = c.in_ok-done.ensures.shared;
  table = c.in_ok-done.ensures.table;
}

pub returns : goal.returns
returns c =
    let test = c.loop-u-test.false in
    let held = c.loop-u.auto.u-end in
    let end = c.len-u-end.ensures in
    let long = entries_long c.args.plan.now c.requires.plan in
    subst (ArePlanTried c.args.old.now.sets.now c.args.budgets.nodes c.args.budgets.steps (script_of c.args.plan.now.design c.args.plan.now.leaves c.args.plan.now.choices) (script_of c.args.plan.now.design c.args.plan.now.leaves c.args.plan.now.choices).entries c.loop-u.results) (sym c.from_vec.ensures)
    (all_units c.args.old.now.sets.now c.args.budgets.nodes c.args.budgets.steps (script_of c.args.plan.now.design c.args.plan.now.leaves c.args.plan.now.choices) c.loop-u.u c.loop-u.results c.loop-u.sets.items (omega (arith, test, end, long)) (omega (arith, held, end, long)) c.loop-u.invariant.tried)
