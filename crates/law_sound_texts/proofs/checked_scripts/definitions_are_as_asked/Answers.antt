use Rattle.law_designs.specs.Flattening.{flatten}
use Rattle.law_designs.specs.Definitions.{design_of_flat_text}
use Rattle.law_sound_texts.proofs.Scripts.{definitions-as-asked}
use Rattle.law_sound_texts.proofs.checked_scripts.definitions_are_as_asked.Goals as goal

pub returns : goal.returns
returns c = λ text h single s e.
    definitions-as-asked (design_of_flat_text (flatten text)) (c.definitions_are_of_families.ensures text h single) (c.definitions_read_whole_elements.ensures (flatten text) (c.flattened_texts_are_kinded.ensures text h)) s e
