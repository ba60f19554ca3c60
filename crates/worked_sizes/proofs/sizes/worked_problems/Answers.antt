-- By computing.
use Rattle.std.proofs.Common.{refl}
use Rattle.law_obligations.proofs.Computing.{computing}
use Rattle.worked_sizes.proofs.sizes.worked_problems.Goals as goal

pub returns-clause-equal : goal.returns-clause-equal
unfolding computing
returns-clause-equal c = (refl, refl, refl, refl)

pub returns-clause-twice : goal.returns-clause-twice
unfolding computing
returns-clause-twice c = refl

pub returns-clause-cases : goal.returns-clause-cases
unfolding computing
returns-clause-cases c = (refl, refl)

pub returns-clause-written : goal.returns-clause-written
unfolding computing
returns-clause-written c = (refl, refl)

pub returns-clause-ordered : goal.returns-clause-ordered
unfolding computing
returns-clause-ordered c = (refl, refl, refl)
