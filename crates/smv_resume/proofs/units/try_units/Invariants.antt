use Rattle.std.proofs.Common.{take}
use Rattle.law_obligations.specs.Units.{script_of}
use Rattle.smv_chosen_table.specs.Tables.{AreBaseDefs}
use Rattle.smv_obligations.specs.Shared.{IsShared}
use Rattle.smv_resume.specs.Units.{ArePlanTried}
use Rattle.smv_resume.proofs.units.try_units.Given as goal

abbrev pub invariant-loop-u : goal.invariant-loop-u
invariant-loop-u l = record {
  tried : ArePlanTried l.old.sets.now l.budgets.nodes l.budgets.steps (script_of l.plan.design l.plan.leaves l.plan.choices) (take l.u (script_of l.plan.design l.plan.leaves l.plan.choices).entries) l.results l.sets.items;
  shared : IsShared l.plan.design l.common;
  table : AreBaseDefs l.plan.design l.table.items;
}
