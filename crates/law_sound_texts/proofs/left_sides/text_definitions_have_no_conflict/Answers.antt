use Rattle.law_designs.specs.Flattening.{flatten}
use Rattle.law_sound_texts.proofs.left_sides.text_definitions_have_no_conflict.Goals as goal

pub returns : goal.returns
returns c = λ text h single. c.definitions_have_no_conflict.ensures (flatten text) (c.flattened_texts_are_placed.ensures text (c.left_sides_have_no_more.ensures text h)) single
