use Rattle.law_bounds.proofs.ConstantLaws.{constants_stay}
use Rattle.law_bounds.proofs.laws.constants_stay.Goals as goal

pub returns : goal.returns
returns c = constants_stay
