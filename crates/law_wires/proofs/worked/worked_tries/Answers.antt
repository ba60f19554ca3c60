-- By computing.
use Rattle.std.proofs.Common.{refl}
use Rattle.law_obligations.proofs.Computing.{computing}
use Rattle.law_wires.proofs.worked.worked_tries.Goals as goal

pub returns-clause-wires : goal.returns-clause-wires
unfolding computing
returns-clause-wires c = (refl, refl, refl)

pub returns-clause-elements : goal.returns-clause-elements
unfolding computing
returns-clause-elements c = (refl, refl)

pub returns-clause-choices : goal.returns-clause-choices
unfolding computing
returns-clause-choices c = (refl, refl)

pub returns-clause-own : goal.returns-clause-own
unfolding computing
returns-clause-own c = (refl, refl, refl, refl)
