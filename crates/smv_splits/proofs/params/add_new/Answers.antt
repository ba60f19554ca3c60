use Rattle.std.proofs.Common.{◌+◌}
use Rattle.law_splits.specs.Leaves.{bound_as}
use Rattle.smv_splits.proofs.ParamLaws.{param-at, numbered-in}
use Rattle.smv_splits.proofs.params.add_new.Goals as goal

pub loop-index-preserved : goal.loop-index-preserved
loop-index-preserved c =
    numbered-in (bound_as c.args.split.now.bound) c.as_slice-word-items.result.now c.args.split.now.vars c.loop-index.index c.args.first c.word-item.result c.in_ok-p.p c.loop-index.out.items c.push.new.self.items _
    c.as_slice-word-items.ensures c.loop-index-test.true c.word-item.is
    (param-at c.as_slice.result.now c.args.split.now.bound c.word-item.result c.in_ok-var.var (c.args.first + c.loop-index.index) c.in_ok-p.p c.as_slice.ensures c.in_ok-var.ensures c.in_ok-p.ensures)
    c.in_ok-push.ensures.items c.loop-index.invariant
