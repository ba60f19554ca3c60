use Rattle.law_designs.specs.Flattening.{flatten}
use Rattle.law_designs.specs.Definitions.{design_of_flat_text}
use Rattle.law_sized_texts.proofs.sized.elements_of_texts_are_chosen.Goals as goal

pub returns : goal.returns
returns c = λ text well none. c.elements_are_chosen.ensures (design_of_flat_text (flatten text)) none (c.left_sides_stay_whole.ensures (flatten text) (c.left_sides_have_no_fewer.ensures text well))
