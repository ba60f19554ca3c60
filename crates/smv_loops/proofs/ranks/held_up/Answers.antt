use Rattle.std.proofs.Common.{◌≡◌, length, arith}
use Rattle.smv_loops.specs.Ranks.{FlaggedBy}
use Rattle.smv_loops.proofs.RankLaws.{flags_more}
use Rattle.smv_loops.proofs.Slices.{put_back}
use Rattle.smv_loops.proofs.ranks.held_up.Goals as goal

pub loop-link-preserved : goal.loop-link-preserved
loop-link-preserved c =
    let f : FlaggedBy c.args.ranks.now c.link-item.result c.loop-link.flags.items c.flag_by.new.flags = rw c.as_mut_slice.ensures.value at c.flag_by.ensures in
    let len : c.loop-link.flags.len ≡ length c.loop-link.flags.items = omega (arith, c.loop-link.flags.ok.0) in
    rw (put_back c.loop-link.flags.len c.flag_by.new.flags c.loop-link.flags.items f.room len)
    (flags_more c.args.ranks.now c.args.links.now c.loop-link.link-index c.link-item.result c.loop-link.flags.items c.flag_by.new.flags c.loop-link-test.true c.link-item.is c.loop-link.invariant f)
