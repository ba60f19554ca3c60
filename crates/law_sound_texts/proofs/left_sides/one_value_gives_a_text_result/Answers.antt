use Rattle.law_designs.specs.Flattening.{flatten}
use Rattle.law_sound_texts.proofs.left_sides.one_value_gives_a_text_result.Goals as goal

pub returns : goal.returns
returns c = λ text h single. c.one_value_gives_a_result.ensures (flatten text) (c.flattened_texts_are_placed.ensures text (c.left_sides_have_no_more.ensures text h)) single
