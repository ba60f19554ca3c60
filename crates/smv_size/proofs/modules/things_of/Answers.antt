use Rattle.std.proofs.Common.{ap, sym, ◌∙◌, flat_map}
use Rattle.smv_core.specs.declared.tree.Item.{Item}
use Rattle.smv_core.specs.declared.tree.Word.{Word}
use Rattle.smv_mentions.specs.Sizes.{family, extents_of, things_of_item}
use Rattle.smv_size.specs.Summary.{things_told}
use Rattle.smv_size.specs.declared.modules.ModuleSize.{ModuleSize}
use Rattle.smv_size.proofs.MetLaws.{map-flat_map}
use Rattle.smv_size.proofs.modules.things_of.Goals as goal

pub returns-in-Declare : goal.returns-in-Declare
returns-in-Declare c known bodies things counts e f =
    let inside = things in
    let words = c.in-Declare.words in
    let inner = extents_of known c.in-Declare.of in
    c.families.ensures (flat_map (λ (word : Word). inner) words) (c.repeated.ensures words inner c.len.ensures (c.families_of.ensures known e))
    ∙ ap things_told (map-flat_map family inner words)
    ∙ ap (λ (x : Item). things_told (things_of_item known bodies inside x)) (sym c.in-Declare.is)

pub returns-in-Instance : goal.returns-in-Instance
returns-in-Instance c known bodies things counts e f =
    let inside = things in
    let name = c.in-Instance.module.name in
    c.instances.ensures c.in-Instance.words (inside name) c.len-in-Instance.ensures (ap (λ (m : ModuleSize). m.things) (c.size_named.ensures ∙ f name))
    ∙ ap (λ (x : Item). things_told (things_of_item known bodies inside x)) (sym c.in-Instance.is)
