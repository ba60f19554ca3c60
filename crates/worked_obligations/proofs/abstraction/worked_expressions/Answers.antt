-- By computing.
use Rattle.std.proofs.Common.{refl}
use Rattle.law_obligations.proofs.Computing.{computing}
use Rattle.worked_obligations.proofs.abstraction.worked_expressions.Goals as goal

pub returns-clause-rests : goal.returns-clause-rests
unfolding computing
returns-clause-rests c = (refl, refl, refl, refl, refl)

pub returns-clause-gaps : goal.returns-clause-gaps
unfolding computing
returns-clause-gaps c = (refl, refl, refl, refl, refl, refl, refl, refl, refl, refl, refl)

pub returns-clause-reads : goal.returns-clause-reads
unfolding computing
returns-clause-reads c = (refl, refl, refl, refl)

pub returns-clause-quantifiers : goal.returns-clause-quantifiers
unfolding computing
returns-clause-quantifiers c = (refl, refl, refl, refl, refl)

pub returns-clause-memberships : goal.returns-clause-memberships
unfolding computing
returns-clause-memberships c = (refl, refl, refl, refl)

pub returns-clause-operators : goal.returns-clause-operators
unfolding computing
returns-clause-operators c = (refl, refl, refl, refl, refl, refl, refl, refl, refl, refl, refl)
