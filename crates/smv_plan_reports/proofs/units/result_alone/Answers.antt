use Rattle.std.proofs.Common.{List, sym, subst}
use Rattle.smv_core.specs.declared.flat.Unit.{Unit}
use Rattle.smv_unit_tables.specs.Bases.{AreBases}
use Rattle.smv_chosen_table.specs.Tables.{IsIndex}
use Rattle.smv_plan_reports.proofs.units.result_alone.Goals as goal

pub base_defs-requires : goal.base_defs-requires
base_defs-requires c = subst (AreBases c.args.plan.now.design) (sym c.as_slice-2.ensures.value) c.in_ok-index.ensures.bases

pub result_at-requires-clause-index : goal.result_at-requires-clause-index
result_at-requires-clause-index c = subst (λ (units : List Unit). IsIndex c.args.plan.now.design units c.in_ok-index.index) c.as_slice.ensures c.in_ok-index.ensures
