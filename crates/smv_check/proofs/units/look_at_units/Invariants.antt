use Rattle.std.proofs.Common.{take}
use Rattle.law_obligations.specs.Units.{script_of}
use Rattle.smv_chosen_table.specs.Tables.{AreBaseDefs}
use Rattle.smv_obligations.specs.Shared.{IsShared}
use Rattle.law_checked_proofs.specs.Cases.{unit_cases_from}
use Rattle.smv_check.specs.Progress.{HasPassed}
use Rattle.smv_check.proofs.units.look_at_units.Given as goal

abbrev pub invariant-loop-u : goal.invariant-loop-u
invariant-loop-u l = record {
  passed : HasPassed (unit_cases_from (script_of l.plan.design l.plan.leaves l.plan.choices) 0 (take l.u (script_of l.plan.design l.plan.leaves l.plan.choices).entries)) l.sets l.progress;
  shared : IsShared l.plan.design l.common;
  table : AreBaseDefs l.plan.design l.table.items;
}
