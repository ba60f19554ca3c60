-- By computing.
use Rattle.std.proofs.Common.{refl}
use Rattle.law_obligations.proofs.Computing.{computing}
use Rattle.worked_obligations.proofs.obligations.worked_problems.Goals as goal

pub returns-clause-split : goal.returns-clause-split
unfolding computing
returns-clause-split c = (refl, refl)

pub returns-clause-claims : goal.returns-clause-claims
unfolding computing
returns-clause-claims c = (refl, refl, refl)

pub returns-clause-maps : goal.returns-clause-maps
unfolding computing
returns-clause-maps c = (refl, refl, refl, refl, refl, refl)

pub returns-clause-now_and_before : goal.returns-clause-now_and_before
unfolding computing
returns-clause-now_and_before c = (refl, refl, refl, refl, refl)

pub returns-clause-written : goal.returns-clause-written
unfolding computing
returns-clause-written c = (refl, refl, refl)

pub returns-clause-demands : goal.returns-clause-demands
unfolding computing
returns-clause-demands c = (refl, refl, refl)

pub returns-clause-output : goal.returns-clause-output
unfolding computing
returns-clause-output c = (refl, refl)
