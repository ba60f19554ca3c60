use Rattle.std.proofs.Common.{◌<◌, List, length, sym, subst, arith}
use Rattle.smv_core.specs.declared.flat.Unit.{Unit}
use Rattle.law_obligations.specs.Units.{script_of}
use Rattle.smv_unit_tables.specs.Bases.{AreBases}
use Rattle.smv_chosen_table.specs.Tables.{IsIndex}
use Rattle.smv_plan_reports.proofs.PlanLaws.{entries_long, no_results, next_result, all_results}
use Rattle.smv_plan_reports.proofs.units.results.Goals as goal

pub base_defs-requires : goal.base_defs-requires
base_defs-requires c = subst (AreBases c.args.plan.now.design) (sym c.as_slice-2.ensures.value) c.in_ok-index.ensures.bases

pub result_at-requires-clause-index : goal.result_at-requires-clause-index
result_at-requires-clause-index c = subst (λ (units : List Unit). IsIndex c.args.plan.now.design units c.in_ok-index.index) c.as_slice.ensures c.in_ok-index.ensures

pub loop-u-init : goal.loop-u-init
loop-u-init c = record {
  results = no_results (script_of c.args.plan.now.design c.args.plan.now.leaves c.args.plan.now.choices) c.args.bits c.args.budgets.nodes c.args.budgets.steps (script_of c.args.plan.now.design c.args.plan.now.leaves c.args.plan.now.choices).entries c.new-results.result c.new-results.ensures;
  shared = c.in_ok-common.ensures;
  table = c.in_ok-table.ensures;
}

pub loop-u-preserved : goal.loop-u-preserved
loop-u-preserved c = record {
  results =
      let below : c.loop-u.u < length (script_of c.args.plan.now.design c.args.plan.now.leaves c.args.plan.now.choices).entries =
      let test = c.loop-u-test.true in
      let end = c.len-u-end.ensures in
      let long = entries_long c.args.plan.now c.requires.plan in
      omega (arith, test, end, long) in
      next_result (script_of c.args.plan.now.design c.args.plan.now.leaves c.args.plan.now.choices) c.args.bits c.args.budgets.nodes c.args.budgets.steps c.loop-u.u c.loop-u.results c.push.new.self c.in_ok-done.done.result below c.loop-u.invariant.results c.in_ok-done.ensures.result c.in_ok-push.ensures.ok;
  shared = c.in_ok-done.ensures.shared;
  table = c.in_ok-done.ensures.table;
}

pub returns : goal.returns
returns c =
    let test = c.loop-u-test.false in
    let held = c.loop-u.auto.u-end in
    let end = c.len-u-end.ensures in
    let long = entries_long c.args.plan.now c.requires.plan in
    all_results (script_of c.args.plan.now.design c.args.plan.now.leaves c.args.plan.now.choices) c.args.bits c.args.budgets.nodes c.args.budgets.steps c.loop-u.u c.loop-u.results (omega (arith, test, end, long)) (omega (arith, held, end, long)) c.loop-u.invariant.results
