use Rattle.std.proofs.Common.{ap, ◌∙◌, find}
use Rattle.std.specs.Str.{bytes_eq}
use Rattle.smv_core.specs.declared.flat.Leaf.{Leaf}
use Rattle.name_index.specs.Position.{position}
use Rattle.smv_choices.specs.Parts.{at_place}
use Rattle.smv_choices.proofs.FaultLaws.{leaf-there}
use Rattle.smv_choices.proofs.readings.leaf_for.Goals as goal

pub returns : goal.returns
returns c =
    c.leaf_at.ensures ∙ (ap (at_place c.args.leaves.now) (c.find.ensures ∙ ap (λ names. position names c.in_ok-name.name) c.requires) ∙ (leaf-there c.args.leaves.now c.in_ok-name.name
    ∙ ap (λ name. find (λ (leaf : Leaf). bytes_eq name leaf.name) c.args.leaves.now) c.in_ok-name.ensures))
