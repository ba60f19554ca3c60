-- By computing.
use Rattle.std.proofs.Common.{refl}
use Rattle.law_obligations.proofs.Computing.{computing}
use Rattle.worked_obligations.proofs.abstraction.worked_cases.Goals as goal

pub returns-clause-scalarsets : goal.returns-clause-scalarsets
unfolding computing
returns-clause-scalarsets c = (refl, refl, refl)

pub returns-clause-reduced : goal.returns-clause-reduced
unfolding computing
returns-clause-reduced c = (refl, refl, refl, refl, refl, refl)

pub returns-clause-ordsets : goal.returns-clause-ordsets
unfolding computing
returns-clause-ordsets c = (refl, refl, refl)

pub returns-clause-ranges : goal.returns-clause-ranges
unfolding computing
returns-clause-ranges c = refl
