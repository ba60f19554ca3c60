-- By computing.
use Rattle.std.proofs.Common.{refl}
use Rattle.law_obligations.proofs.Computing.{computing}
use Rattle.law_reads.proofs.worked.worked_expressions.Goals as goal

pub returns-clause-quantifiers : goal.returns-clause-quantifiers
unfolding computing
returns-clause-quantifiers c = (refl, refl, refl, refl, refl)

pub returns-clause-constants : goal.returns-clause-constants
unfolding computing
returns-clause-constants c = (refl, refl, refl, refl)

pub returns-clause-rests : goal.returns-clause-rests
unfolding computing
returns-clause-rests c = (refl, refl, refl, refl)

pub returns-clause-few : goal.returns-clause-few
unfolding computing
returns-clause-few c = (refl, refl, refl, refl)
