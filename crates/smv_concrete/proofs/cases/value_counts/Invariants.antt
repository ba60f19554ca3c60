use Rattle.std.proofs.Common.{◌≡◌, ◌++◌, length, map, drop}
use Rattle.smv_core.specs.FlatMeaning.{values_in}
use Rattle.law_concrete.specs.Concrete.{sized}
use Rattle.law_concrete.specs.Sizes.{sizes_at}
use Rattle.smv_concrete.proofs.cases.value_counts.Given as goal

abbrev pub invariant-loop-over : goal.invariant-loop-over
invariant-loop-over l = l.counts.items ++ map (λ t. length (values_in (sized l.subject.design.now (sizes_at l.subject.design.now.sets l.subject.sizes.now)) t)) (drop l.over-index l.indexes) ≡
    map (λ t. length (values_in (sized l.subject.design.now (sizes_at l.subject.design.now.sets l.subject.sizes.now)) t)) l.indexes
