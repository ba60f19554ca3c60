use Rattle.std.proofs.Common.{nat_lt}
use Rattle.law_concrete.specs.Concrete.{sized}
use Rattle.law_concrete.specs.Sizes.{element_count, sizes_at}
use Rattle.smv_core.specs.declared.flat.Family.{Family}
use Rattle.smv_concrete.proofs.Passed.{IsPassed}
use Rattle.smv_concrete.proofs.cases.is_wide.Given as goal

abbrev pub invariant-loop-family : goal.invariant-loop-family
invariant-loop-family l = IsPassed (λ (f : Family). nat_lt 256 (element_count (sized l.subject.design.now (sizes_at l.subject.design.now.sets l.subject.sizes.now)) f)) l.families l.family-index
