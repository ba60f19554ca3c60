use Rattle.std.proofs.Common.{◌≡◌, refl}
use Rattle.smv_problem.specs.declared.report.Verdict.TheVariants.{True}
use Rattle.smv_problem.specs.declared.report.UnitResult.{UnitResult}
use Rattle.smv_resume.proofs.UnitLaws.{none_yet, one_more_each, each_then, not_each}
use Rattle.smv_resume.proofs.units.all_true.Goals as goal

pub loop-told-init : goal.loop-told-init
loop-told-init c = none_yet (λ (r : UnitResult). r.verdict ≡ True) c.args.results.now

pub loop-told-preserved : goal.loop-told-preserved
loop-told-preserved c =
    one_more_each (λ (r : UnitResult). r.verdict ≡ True) c.args.results.now c.loop-told.told-index c.told-item.result c.loop-told-test.true c.told-item.is c.loop-told.invariant (c.is_true.ensures.0 c.if-not-is_true.false)

pub returns-then-not-is_true : goal.returns-then-not-is_true
returns-then-not-is_true c = (
  (λ t. absurd (cc (t))),
  (λ all. absurd (not_each (λ (r : UnitResult). r.verdict ≡ True) c.args.results.now c.loop-told.told-index c.told-item.result c.loop-told-test.true c.told-item.is (λ e. let is = c.is_true.ensures.1 e in let not = c.if-not-is_true.true in absurd (cc (is, not))) all)),
)

pub returns : goal.returns
returns c = (
  (λ t. each_then (λ (r : UnitResult). r.verdict ≡ True) c.args.results.now c.loop-told.told-index c.loop-told-test.false c.loop-told.invariant),
  (λ all. refl),
)
