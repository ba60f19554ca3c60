use Rattle.law_designs.proofs.TypeNumbers.{types-of-text}
use Rattle.law_designs.proofs.SameClaims.{claims-of-text}
use Rattle.law_designs.proofs.flattening.claims_are_the_same.Goals as goal

pub returns : goal.returns
returns c = λ text faultless sizes s t states right. claims-of-text text sizes s t states (types-of-text text faultless sizes) right
