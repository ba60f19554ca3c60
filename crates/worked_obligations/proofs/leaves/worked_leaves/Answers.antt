-- By computing.
use Rattle.std.proofs.Common.{refl}
use Rattle.law_obligations.proofs.Computing.{computing}
use Rattle.worked_obligations.proofs.leaves.worked_leaves.Goals as goal

pub returns-clause-tomasulo : goal.returns-clause-tomasulo
unfolding computing
returns-clause-tomasulo c = (refl, refl, refl)

pub returns-clause-unsplit : goal.returns-clause-unsplit
unfolding computing
returns-clause-unsplit c = refl

pub returns-clause-splits : goal.returns-clause-splits
unfolding computing
returns-clause-splits c = (refl, refl, refl)

pub returns-clause-renamed : goal.returns-clause-renamed
unfolding computing
returns-clause-renamed c = refl

pub returns-clause-unnamed : goal.returns-clause-unnamed
unfolding computing
returns-clause-unnamed c = refl

pub returns-clause-inner : goal.returns-clause-inner
unfolding computing
returns-clause-inner c = (refl, refl)

pub returns-clause-maps : goal.returns-clause-maps
unfolding computing
returns-clause-maps c = (refl, refl)

pub returns-clause-places : goal.returns-clause-places
unfolding computing
returns-clause-places c = refl
