use Rattle.smv_concrete.specs.Subjects.{unit_of}
use Rattle.smv_concrete.proofs.Faults.{wide}
use Rattle.smv_concrete.proofs.Passed.{IsPassed}
use Rattle.smv_concrete.proofs.calls.width_fault.Given as goal

abbrev pub invariant-loop-case : goal.invariant-loop-case
invariant-loop-case l = IsPassed (wide l.subject.design.now (unit_of l.subject) l.subject.sizes.now l.cases) l.cases l.case-index
