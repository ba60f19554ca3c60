-- By computing.
use Rattle.std.proofs.Common.{refl}
use Rattle.law_obligations.proofs.Computing.{computing}
use Rattle.worked_obligations.proofs.obligations.worked_states.Goals as goal

pub returns-clause-exclusion : goal.returns-clause-exclusion
unfolding computing
returns-clause-exclusion c = (refl, refl)

pub returns-clause-outside : goal.returns-clause-outside
unfolding computing
returns-clause-outside c = (refl, refl, refl, refl)

pub returns-clause-reductions : goal.returns-clause-reductions
unfolding computing
returns-clause-reductions c = (refl, refl)

pub returns-clause-by_hand : goal.returns-clause-by_hand
unfolding computing
returns-clause-by_hand c = (refl, refl, refl, refl, refl, refl, refl, refl, refl, refl, refl, refl)

pub returns-clause-reduced : goal.returns-clause-reduced
unfolding computing
returns-clause-reduced c = (refl, refl)

pub returns-clause-orders : goal.returns-clause-orders
unfolding computing
returns-clause-orders c = (refl, refl, refl)
