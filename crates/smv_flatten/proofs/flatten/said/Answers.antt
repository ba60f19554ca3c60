use Rattle.std.proofs.Common.{ap, ◌∙◌, refl}
use Rattle.std.specs.List.{flat_map}
use Rattle.law_designs.specs.Flattening.{layers_of, with_places}
use Rattle.smv_flatten.specs.Items.{flat_met}
use Rattle.smv_flatten.specs.Met.{entries_met}
use Rattle.smv_flatten.proofs.FlatLaws.{whole}
use Rattle.smv_flatten.proofs.flatten.said.Goals as goal

pub returns : goal.returns
returns c =
    let numbers = c.args.numbers.now in
    let text = numbers.text.now in
    let names = c.in_ok-layers.layers.names in
    let named = c.in_ok-layers.ensures.layers text ∙ ap (λ l. layers_of (flat_map (entries_met text) l)) c.as_slice.ensures.value in
    let placed = c.in_ok-items-2.ensures ∙ ap (with_places 0) (c.in_ok-items.ensures ∙ ap (flat_map (flat_met text names)) c.as_slice-2.ensures.value) in
    whole text numbers refl c.requires c.in_ok-all.all.items c.in_ok-all.ensures names named c.in_ok-items-2.items placed
