use Rattle.std.proofs.Common.{◌<◌, ◌∙◌, length, sym, ap, arith}
use Rattle.std.specs.Prelude.{option_copied}
use Rattle.smv_splits.specs.Links.{held}
use Rattle.smv_splits.proofs.LinkLaws.{turn}
use Rattle.smv_splits.proofs.chains.follow.Goals as goal

pub loop-turn-preserved : goal.loop-turn-preserved
loop-turn-preserved c =
    let below : c.loop-turn._turn < length c.args.design.now.splits = omega (arith, c.loop-turn-test.true, c.len-turn-end.ensures) in
    turn c.args.design.now (length c.args.design.now.splits) c.loop-turn._turn (held c.loop-turn.chain) (held c.add.new.chain) c.in-Some.split.now _ below
    (sym c.split_of.ensures ∙ ap option_copied c.in-Some.is) c.in_ok-add-in-Some.ensures c.loop-turn.invariant
