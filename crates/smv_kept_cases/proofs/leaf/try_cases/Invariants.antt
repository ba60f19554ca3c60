use Rattle.std.proofs.Common.{take}
use Rattle.smv_obligations.specs.Shared.{IsShared}
use Rattle.smv_decide.specs.Leaves.{classes_in}
use Rattle.smv_decide.specs.Tasks.{case_in}
use Rattle.law_checked_proofs.specs.Cases.{cases_from}
use Rattle.law_checked_proofs.specs.Resumed.{AreSetsOf}
use Rattle.smv_kept_cases.proofs.leaf.try_cases.Given as goal

abbrev pub invariant-loop-k : goal.invariant-loop-k
invariant-loop-k l = record {
  shared : IsShared l.task.design.now l.common;
  sets : AreSetsOf l.old.sets.now l.budgets.nodes l.budgets.steps (cases_from l.unit (case_in l.task) 0 (classes_in (take l.k l.cases))) l.sets;
}
