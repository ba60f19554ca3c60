-- By computing.
use Rattle.std.proofs.Common.{refl}
use Rattle.law_obligations.proofs.Computing.{computing}
use Rattle.worked_obligations.proofs.obligations.worked_cones.Goals as goal

pub returns-clause-signals : goal.returns-clause-signals
unfolding computing
returns-clause-signals c = (refl, refl)

pub returns-clause-rests : goal.returns-clause-rests
unfolding computing
returns-clause-rests c = refl

pub returns-clause-indexes : goal.returns-clause-indexes
unfolding computing
returns-clause-indexes c = (refl, refl)

pub returns-clause-picks : goal.returns-clause-picks
unfolding computing
returns-clause-picks c = (refl, refl, refl, refl)

pub returns-clause-constants : goal.returns-clause-constants
unfolding computing
returns-clause-constants c = refl

pub returns-clause-at_rests : goal.returns-clause-at_rests
unfolding computing
returns-clause-at_rests c = refl

pub returns-clause-tomasulo : goal.returns-clause-tomasulo
unfolding computing
returns-clause-tomasulo c = (refl, refl)
