use Rattle.law_designs.specs.Flattening.{flatten}
use Rattle.law_sound_texts.proofs.SameLayers.{same_layers}
use Rattle.law_sound_texts.proofs.behaviours.layers_are_same.Goals as goal

pub returns : goal.returns
returns c = λ text none faultless.
    same_layers text (λ name. 0) (c.families_are_the_same.ensures text none (λ name. 0)) (c.families_are_found.ensures text none) (c.statements_are_the_same.ensures text) (c.definitions_are_in_order.ensures (flatten text)) faultless
