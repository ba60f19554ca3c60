use Rattle.std.proofs.Common.{◌+◌, ◌<◌, sym, ◌∙◌, arith}
use Rattle.smv_indexes.specs.Indexes.{index_of}
use Rattle.smv_look_loops.specs.Shares.{both_fit, share_range}
use Rattle.smv_look_loops.proofs.ShareLaws.{any-step}
use Rattle.smv_look_loops.proofs.shares.share_range.Goals as goal

pub loop-k-preserved : goal.loop-k-preserved
loop-k-preserved c =
    let i = index_of c.args.i in
    let j = index_of c.args.j in
    let l : c.loop-k.k < c.args.high + 1 = omega arith in
    any-step (both_fit i j) c.loop-k.k c.args.high (share_range c.args.low c.args.high i j) l (sym c.do_fit.ensures ∙ c.if-do_fit.false) c.loop-k.invariant
