use Rattle.law_designs.proofs.TypeNumbers.{types-of-text}
use Rattle.law_designs.proofs.SameText.{allowed_of_text}
use Rattle.law_designs.proofs.flattening.right_sides_are_the_same.Goals as goal

pub returns : goal.returns
returns c = λ text faultless sizes s t states instance every vars e b agree right. allowed_of_text text sizes s t states (types-of-text text faultless sizes) instance every vars e b agree right
