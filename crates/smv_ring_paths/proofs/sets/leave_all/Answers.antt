use Rattle.smv_rings.specs.declared.ops.Op.TheVariants.{And}
use Rattle.smv_ring_paths.proofs.Joins.{op_leaves}
use Rattle.smv_ring_paths.proofs.sets.leave_all.Goals as goal

pub loop-op-preserved : goal.loop-op-preserved
loop-op-preserved c =
    op_leaves c.args.store.now c.args.start c.args.ops.now c.loop-op.store c.loop-op.p c.loop-op.op-index (And (record { place = 0 })) c.loop-op-test.true c.loop-op.invariant
    c.leave.new.store c.in_ok-p.p c.in_ok-p.ensures.keeps c.in_ok-p.ensures.live c.in_ok-p.ensures.table
