use Rattle.std.proofs.Common.{take}
use Rattle.law_reports.specs.Verdicts.{AreTrueCases, IsVerdictFor}
use Rattle.smv_obligations.specs.Shared.{IsShared}
use Rattle.smv_decide.specs.Leaves.{classes_in}
use Rattle.smv_concrete.specs.Subjects.{case_in}
use Rattle.smv_confirm.proofs.cases.decide_cases.Given as goal

abbrev pub invariant-loop-case : goal.invariant-loop-case
invariant-loop-case l = record {
  shared : IsShared l.subject.design.now l.common;
  are_true : AreTrueCases (IsVerdictFor (case_in l.subject) l.bits l.budgets.nodes l.budgets.steps) (classes_in (take l.case-index l.cases));
}
