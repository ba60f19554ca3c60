use Rattle.law_designs.specs.Flattening.{flatten}
use Rattle.law_designs.specs.Definitions.{design_of_flat_text}
use Rattle.law_sound_texts.proofs.Scripts.{checked}
use Rattle.law_sound_texts.proofs.checked_scripts.scripts_are_checked.Goals as goal

pub returns : goal.returns
returns c = λ text h single s e splits.
    let kinds = c.flattened_texts_are_kinded.ensures text h in
    checked (design_of_flat_text (flatten text)) (c.set_types_are_apart.ensures text h.3) (c.families_are_filled.ensures (flatten text) kinds)
    (c.claims_read_whole_elements.ensures (flatten text) kinds) s e (c.definitions_are_as_asked.ensures text h single s e) splits
