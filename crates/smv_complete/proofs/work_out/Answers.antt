use Rattle.smv_complete.proofs.First.{so_far_more, all_so_far}
use Rattle.smv_complete.proofs.work_out.Goals as goal

pub loop-wire-preserved : goal.loop-wire-preserved
loop-wire-preserved c = record {
  cells = c.in_ok-work_out_one.ensures.cells;
  so_far = so_far_more c.args.problem.now c.args.wires.now c.args.state.now c.loop-wire.wire-index c.loop-wire.values.items c.work_out_one.new.values.items c.wire-item.result c.loop-wire-test.true c.wire-item.is c.in_ok-work_out_one.ensures.values c.loop-wire.invariant.so_far;
}

pub returns : goal.returns
returns c =
    all_so_far c.args.problem.now c.args.wires.now c.args.state.now c.loop-wire.wire-index c.loop-wire.values.items c.loop-wire-test.false c.loop-wire.invariant.so_far (record { values = c.from_vec.result }) c.from_vec.ensures
