-- By computing.
use Rattle.std.proofs.Common.{refl}
use Rattle.law_obligations.proofs.Computing.{computing}
use Rattle.law_reads.proofs.worked.worked_definitions.Goals as goal

pub returns-clause-empty : goal.returns-clause-empty
unfolding computing
returns-clause-empty c = (refl, refl, refl)

pub returns-clause-elsewhere : goal.returns-clause-elsewhere
unfolding computing
returns-clause-elsewhere c = (refl, refl, refl, refl)

pub returns-clause-lefts : goal.returns-clause-lefts
unfolding computing
returns-clause-lefts c = (refl, refl, refl, refl)
