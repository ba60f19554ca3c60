use Rattle.law_designs.proofs.TypeNumbers.{types-of-text}
use Rattle.law_designs.proofs.SameClaims.{claims-of-text}
use Rattle.law_designs.proofs.RightText.{well_kinded-right}
use Rattle.law_designs.proofs.well_kinded.claims_are_the_same.Goals as goal

pub returns : goal.returns
returns c = λ text h sizes s t states. claims-of-text text sizes s t states (types-of-text text h.3 sizes) (well_kinded-right text h)
