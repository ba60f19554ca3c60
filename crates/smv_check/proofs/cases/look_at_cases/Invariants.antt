use Rattle.std.proofs.Common.{◌++◌, List, take}
use Rattle.smv_cases.specs.Slots.{classes_of}
use Rattle.smv_obligations.specs.Shared.{IsShared}
use Rattle.law_checked_proofs.specs.Cases.{UnitCase, cases_from}
use Rattle.smv_check.specs.Progress.{HasPassed}
use Rattle.smv_check.specs.Tasks.{case_in}
use Rattle.smv_check.proofs.cases.look_at_cases.Given as goal

abbrev pub invariant-loop-number : goal.invariant-loop-number
invariant-loop-number l = record {
  shared : IsShared l.task.design.now l.common;
  passed : (done : List UnitCase) → HasPassed done l.task.sets.now l.fn.progress → HasPassed (done ++ cases_from l.task.name.now (case_in l.task) 0 (classes_of (take l.number l.cases))) l.task.sets.now l.so_far;
}
