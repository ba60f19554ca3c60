use Rattle.std.proofs.Common.{take, ap, ◌∙◌}
use Rattle.std.specs.List.{flat_map}
use Rattle.std.proofs.lemmas.List.{take_all}
use Rattle.smv_mentions.specs.Sizes.{things_of_item}
use Rattle.smv_size.specs.Summary.{things_told}
use Rattle.smv_size.proofs.ExtentLaws.{flat_map-turn}
use Rattle.smv_size.proofs.modules.things_of_items.Goals as goal

pub loop-item-preserved : goal.loop-item-preserved
loop-item-preserved c known bodies things counts e f =
    let g = things_of_item known bodies things in
    let items = c.args.items.now in
    let i = c.loop-item.item-index in
    c.both-all.ensures (flat_map g (take i items)) (g c.item-item.result) (c.loop-item.invariant known bodies things counts e f) (c.things_of.ensures known bodies things counts e f)
    ∙ ap things_told (flat_map-turn g items i c.item-item.result c.loop-item-test.true c.item-item.is)

pub returns : goal.returns
returns c known bodies things counts e f =
    let g = things_of_item known bodies things in
    c.loop-item.invariant known bodies things counts e f ∙ ap (λ l. things_told (flat_map g l)) (take_all c.loop-item.item-index c.args.items.now c.loop-item-test.false)
