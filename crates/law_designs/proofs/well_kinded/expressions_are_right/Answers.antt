use Rattle.law_designs.proofs.RightText.{right-text}
use Rattle.law_designs.proofs.well_kinded.expressions_are_right.Goals as goal

pub returns : goal.returns
returns c = λ text written names kinds. right-text text written names kinds
