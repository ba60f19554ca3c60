use Rattle.law_designs.proofs.TypeNumbers.{types-of-text}
use Rattle.law_designs.proofs.SameAllowed.{allowed-same}
use Rattle.law_designs.proofs.RightText.{well_kinded-right}
use Rattle.law_designs.proofs.well_kinded.allowed_values_are_the_same.Goals as goal

pub returns : goal.returns
returns c = λ text h sizes layer x f found before flat_before same now flat_now states. allowed-same text sizes (types-of-text text h.3 sizes) (well_kinded-right text h) layer x f found before flat_before same now flat_now states
