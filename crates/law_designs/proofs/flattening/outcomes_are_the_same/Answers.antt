use Rattle.law_designs.proofs.TypeNumbers.{types-of-text}
use Rattle.law_designs.proofs.SameText.{outcome_of_text}
use Rattle.law_designs.proofs.flattening.outcomes_are_the_same.Goals as goal

pub returns : goal.returns
returns c = λ text faultless sizes s t states instance vars e b agree right. outcome_of_text text sizes s t states (types-of-text text faultless sizes) instance vars e b agree right
