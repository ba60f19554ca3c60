use Rattle.law_designs.proofs.TypeNumbers.{types-of-text}
use Rattle.law_designs.proofs.SameFamilies.{families_of_text}
use Rattle.law_designs.proofs.flattening.families_are_the_same.Goals as goal

pub returns : goal.returns
returns c = λ text faultless sizes. families_of_text text sizes (types-of-text text faultless sizes)
