use Rattle.law_designs.proofs.TypeNumbers.{types-of-text}
use Rattle.law_designs.proofs.SameAllowed.{allowed-same}
use Rattle.law_designs.proofs.flattening.allowed_values_are_the_same.Goals as goal

pub returns : goal.returns
returns c = λ text faultless right sizes layer x f found before flat_before same now flat_now states. allowed-same text sizes (types-of-text text faultless sizes) right layer x f found before flat_before same now flat_now states
