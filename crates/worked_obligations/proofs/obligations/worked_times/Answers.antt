-- By computing.
use Rattle.std.proofs.Common.{refl}
use Rattle.law_obligations.proofs.Computing.{computing}
use Rattle.worked_obligations.proofs.obligations.worked_times.Goals as goal

pub returns-clause-tomasulo : goal.returns-clause-tomasulo
unfolding computing
returns-clause-tomasulo c = (refl, refl, refl)

pub returns-clause-claims : goal.returns-clause-claims
unfolding computing
returns-clause-claims c = (refl, refl, refl, refl, refl)

pub returns-clause-maps : goal.returns-clause-maps
unfolding computing
returns-clause-maps c = (refl, refl, refl)
