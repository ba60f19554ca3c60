-- By computing.
use Rattle.std.proofs.Common.{refl}
use Rattle.law_obligations.proofs.Computing.{computing}
use Rattle.worked_obligations.proofs.abstraction.worked_right_sides.Goals as goal

pub returns-clause-bit_targets : goal.returns-clause-bit_targets
unfolding computing
returns-clause-bit_targets c = ((refl, refl), (refl, refl), (refl, refl), (refl, refl), (refl, refl), (refl, refl), (refl, refl))

pub returns-clause-set_targets : goal.returns-clause-set_targets
unfolding computing
returns-clause-set_targets c = ((refl, refl), (refl, refl), (refl, refl), (refl, refl))

pub returns-clause-outside_targets : goal.returns-clause-outside_targets
unfolding computing
returns-clause-outside_targets c = ((refl, refl), (refl, refl))

pub returns-clause-assignments : goal.returns-clause-assignments
unfolding computing
returns-clause-assignments c = (refl, refl, refl, refl, refl, refl, refl, refl)
