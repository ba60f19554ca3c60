-- By computing.
use Rattle.std.proofs.Common.{refl}
use Rattle.law_obligations.proofs.Computing.{computing}
use Rattle.worked_obligations.proofs.leaves.worked_faults.Goals as goal

pub returns-clause-texts : goal.returns-clause-texts
unfolding computing
returns-clause-texts c = (refl, refl)

pub returns-clause-none : goal.returns-clause-none
unfolding computing
returns-clause-none c = (refl, refl, refl, refl)

pub returns-clause-units : goal.returns-clause-units
unfolding computing
returns-clause-units c = (refl, refl, refl, refl, refl)

pub returns-clause-base : goal.returns-clause-base
unfolding computing
returns-clause-base c = (refl, refl)

pub returns-clause-twice : goal.returns-clause-twice
unfolding computing
returns-clause-twice c = (refl, refl)

pub returns-clause-nowhere : goal.returns-clause-nowhere
unfolding computing
returns-clause-nowhere c = (refl, refl, refl)

pub returns-clause-counts : goal.returns-clause-counts
unfolding computing
returns-clause-counts c = (refl, refl, refl, refl)

pub returns-clause-unbound : goal.returns-clause-unbound
unfolding computing
returns-clause-unbound c = (refl, refl)

pub returns-clause-unbound_parameters : goal.returns-clause-unbound_parameters
unfolding computing
returns-clause-unbound_parameters c = (refl, refl, refl)

pub returns-clause-doubled : goal.returns-clause-doubled
unfolding computing
returns-clause-doubled c = (refl, refl, refl)

pub returns-clause-types : goal.returns-clause-types
unfolding computing
returns-clause-types c = (refl, refl)

pub returns-clause-equations : goal.returns-clause-equations
unfolding computing
returns-clause-equations c = (refl, refl, refl)

pub returns-clause-kinds : goal.returns-clause-kinds
unfolding computing
returns-clause-kinds c = (refl, refl, refl, refl, refl, refl, refl, refl)

pub returns-clause-strays : goal.returns-clause-strays
unfolding computing
returns-clause-strays c = (refl, refl, refl, refl, refl, refl)

pub returns-clause-first : goal.returns-clause-first
unfolding computing
returns-clause-first c = refl
