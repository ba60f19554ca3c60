use Rattle.std.proofs.Common.{[], take, ap, ◌∙◌}
use Rattle.smv_mentions.specs.Sizes.{sized_from}
use Rattle.smv_size.specs.Summary.{types_told}
use Rattle.smv_size.proofs.ExtentLaws.{sized-turn}
use Rattle.smv_size.proofs.types.type_sizes.Goals as goal

pub loop-top-preserved : goal.loop-top-preserved
loop-top-preserved c =
    let tops = c.args.tops.now in
    let i = c.loop-top.top-index in
    c.in_ok-note_type.ensures (sized_from [] (take i tops)) c.loop-top.invariant ∙ ap types_told (sized-turn tops i c.top-item.result c.loop-top-test.true c.top-item.is)
