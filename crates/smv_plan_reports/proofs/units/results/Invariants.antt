use Rattle.std.proofs.Common.{take}
use Rattle.law_obligations.specs.Units.{script_of}
use Rattle.law_reports.specs.Reports.{AreResultsFrom}
use Rattle.smv_chosen_table.specs.Tables.{AreBaseDefs}
use Rattle.smv_obligations.specs.Shared.{IsShared}
use Rattle.smv_plan_reports.proofs.units.results.Given as goal

abbrev pub invariant-loop-u : goal.invariant-loop-u
invariant-loop-u l = record {
  results : AreResultsFrom (script_of l.plan.design l.plan.leaves l.plan.choices) l.bits l.budgets.nodes l.budgets.steps 0 (take l.u (script_of l.plan.design l.plan.leaves l.plan.choices).entries) l.results;
  shared : IsShared l.plan.design l.common;
  table : AreBaseDefs l.plan.design l.table.items;
}
