use Rattle.law_designs.specs.Agreement.{numbers_in}
use Rattle.law_sound_texts.proofs.ExactStatements.{text-exact}
use Rattle.law_sound_texts.proofs.left_sides.left_sides_are_exact.Goals as goal

pub returns : goal.returns
returns c = λ text h. text-exact text (numbers_in text (λ name. 0)) (c.families_are_found.ensures text h.3) (c.families_are_the_same.ensures text h.3 (λ name. 0)) (c.left_sides_lead_to_families.ensures text h)
