use Rattle.law_designs.proofs.TypeNumbers.{types-of-text}
use Rattle.law_designs.proofs.SameText.{walk_of_text}
use Rattle.law_designs.proofs.flattening.walks_are_the_same.Goals as goal

pub returns : goal.returns
returns c = λ text faultless sizes s t states kind x every f found instance vars act b agree right. walk_of_text text sizes s t states (types-of-text text faultless sizes) kind x every f found instance vars act b agree right
