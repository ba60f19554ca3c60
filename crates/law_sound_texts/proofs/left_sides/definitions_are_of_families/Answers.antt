use Rattle.law_designs.specs.Flattening.{flatten}
use Rattle.law_sound_texts.proofs.Defined.{are_free}
use Rattle.law_sound_texts.proofs.left_sides.definitions_are_of_families.Goals as goal

pub returns : goal.returns
returns c = λ text h single. are_free (flatten text) (λ a p. c.left_sides_are_exact.ensures text h a p) (c.text_definitions_have_no_conflict.ensures text h single)
