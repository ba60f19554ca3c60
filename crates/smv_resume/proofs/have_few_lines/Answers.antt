use Rattle.std.proofs.Common.{◌<◌, length, refl, arith}
use Rattle.smv_proof.specs.declared.proof.KeptSet.{KeptSet}
use Rattle.smv_proof.specs.Documents.{most}
use Rattle.smv_resume.proofs.UnitLaws.{none_yet, one_more_each, each_then, not_each}
use Rattle.smv_resume.proofs.have_few_lines.Goals as goal

pub loop-set-init : goal.loop-set-init
loop-set-init c = none_yet (λ (set : KeptSet). length set.nodes < most) c.args.sets.now

pub loop-set-preserved : goal.loop-set-preserved
loop-set-preserved c =
    let test = c.if-len-ge-MOST.false in
    let long = c.len.ensures in
    one_more_each (λ (set : KeptSet). length set.nodes < most) c.args.sets.now c.loop-set.set-index c.set-item.result c.loop-set-test.true c.set-item.is c.loop-set.invariant (omega (arith, test, long))

pub returns-then-len-ge-MOST : goal.returns-then-len-ge-MOST
returns-then-len-ge-MOST c =
    let test = c.if-len-ge-MOST.true in
    let long = c.len.ensures in (
      (λ t. absurd (cc (t))),
      (λ few. absurd (not_each (λ (set : KeptSet). length set.nodes < most) c.args.sets.now c.loop-set.set-index c.set-item.result c.loop-set-test.true c.set-item.is (λ lt. omega (arith, test, long, lt)) few)),
    )

pub returns : goal.returns
returns c = (
  (λ t. each_then (λ (set : KeptSet). length set.nodes < most) c.args.sets.now c.loop-set.set-index c.loop-set-test.false c.loop-set.invariant),
  (λ all. refl),
)
