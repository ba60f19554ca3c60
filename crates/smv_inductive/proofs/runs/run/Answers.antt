use Rattle.smv_rings.specs.declared.ops.Op.TheVariants.{And}
use Rattle.smv_inductive.proofs.Loops.{left_all, op_refs, op_fits, op_finds, op_leaves, left_none}
use Rattle.smv_inductive.proofs.runs.run.Goals as goal

pub loop-op-init : goal.loop-op-init
loop-op-init c = left_all c.args.store.now c.args.start c.args.ops.now c.requires.start c.requires.refs c.requires.fits

pub step-requires-clause-refs : goal.step-requires-clause-refs
step-requires-clause-refs c = op_refs c.args.store.now c.args.start c.args.ops.now c.loop-op.store c.loop-op.p c.loop-op.op-index (And (record { place = 0 })) c.loop-op-test.true c.loop-op.invariant

pub step-requires-clause-fits : goal.step-requires-clause-fits
step-requires-clause-fits c = op_fits c.args.store.now c.args.start c.args.ops.now c.loop-op.store c.loop-op.p c.loop-op.op-index (And (record { place = 0 })) c.loop-op-test.true c.loop-op.invariant

pub returns-in-None-clause-leaves : goal.returns-in-None-clause-leaves
returns-in-None-clause-leaves c = op_finds c.args.store.now c.args.start c.args.ops.now c.loop-op.store c.loop-op.p c.loop-op.op-index (And (record { place = 0 })) c.loop-op-test.true c.loop-op.invariant c.step.new.store c.in_ok-left.field-0 c.in-None.is c.in_ok-left.ensures.leaves

pub loop-op-preserved : goal.loop-op-preserved
loop-op-preserved c = op_leaves c.args.store.now c.args.start c.args.ops.now c.loop-op.store c.loop-op.p c.loop-op.op-index (And (record { place = 0 })) c.loop-op-test.true c.loop-op.invariant c.step.new.store c.in_ok-left.field-0 c.in-Some.left c.in-Some.is c.in_ok-left.ensures.keeps c.in_ok-left.ensures.leaves

pub returns-clause-leaves : goal.returns-clause-leaves
returns-clause-leaves c = left_none c.args.store.now c.args.start c.args.ops.now c.loop-op.store c.loop-op.p c.loop-op.op-index c.loop-op-test.false c.loop-op.invariant
