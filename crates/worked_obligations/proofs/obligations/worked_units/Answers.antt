-- By computing.
use Rattle.std.proofs.Common.{refl}
use Rattle.law_obligations.proofs.Computing.{computing}
use Rattle.worked_obligations.proofs.obligations.worked_units.Goals as goal

pub returns : goal.returns
unfolding computing
returns c = (refl, refl, refl)
