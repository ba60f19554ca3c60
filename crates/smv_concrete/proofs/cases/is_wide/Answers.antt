use Rattle.std.proofs.Common.{nat_lt, sym, ◌∙◌}
use Rattle.law_concrete.specs.Concrete.{sized}
use Rattle.law_concrete.specs.Sizes.{element_count, sizes_at}
use Rattle.smv_core.specs.declared.flat.Family.{Family}
use Rattle.smv_concrete.proofs.Passed.{passed-all, passed-here, passed-more, passed-none}
use Rattle.smv_concrete.proofs.cases.is_wide.Goals as goal

pub loop-family-init : goal.loop-family-init
loop-family-init c = passed-none (λ (f : Family). nat_lt 256 (element_count (sized c.args.subject.now.design.now (sizes_at c.args.subject.now.design.now.sets c.args.subject.now.sizes.now)) f)) c.args.families.now

pub returns-then-wide : goal.returns-then-wide
returns-then-wide c =
    sym (passed-here (λ (f : Family). nat_lt 256 (element_count (sized c.args.subject.now.design.now (sizes_at c.args.subject.now.design.now.sets c.args.subject.now.sizes.now)) f)) c.args.families.now c.loop-family.family-index c.family-item.result c.loop-family-test.true c.family-item.is
    (sym c.in_ok-wide.ensures ∙ c.if-wide.true) c.loop-family.invariant)

pub loop-family-preserved : goal.loop-family-preserved
loop-family-preserved c =
    passed-more (λ (f : Family). nat_lt 256 (element_count (sized c.args.subject.now.design.now (sizes_at c.args.subject.now.design.now.sets c.args.subject.now.sizes.now)) f)) c.args.families.now c.loop-family.family-index c.family-item.result c.loop-family-test.true c.family-item.is
    (sym c.in_ok-wide.ensures ∙ c.if-wide.false) c.loop-family.invariant

pub returns : goal.returns
returns c =
    sym (passed-all (λ (f : Family). nat_lt 256 (element_count (sized c.args.subject.now.design.now (sizes_at c.args.subject.now.design.now.sets c.args.subject.now.sizes.now)) f)) c.args.families.now c.loop-family.family-index c.loop-family-test.false c.loop-family.invariant)
