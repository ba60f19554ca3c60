-- By computing the first fault of each text.
use Rattle.std.proofs.Common.{refl}
use Rattle.worked_texts.specs.SingleAssignmentWorked.{AreFound}
use Rattle.worked_texts.specs.WorkedFaults as w
use Rattle.worked_texts.proofs.FlatteningComputing.{computing}

pub rows-found : AreFound w.rows
unfolding computing
rows-found = refl

pub branches-found : AreFound w.branches
unfolding computing
branches-found = refl

pub constants-found : AreFound w.constants
unfolding computing
constants-found = refl

pub kinds_and_sets-found : AreFound w.kinds_and_sets
unfolding computing
kinds_and_sets-found = refl

pub loops-found : AreFound w.loops
unfolding computing
loops-found = refl

pub shared_variables-found : AreFound w.shared_variables
unfolding computing
shared_variables-found = refl

pub beside-found : AreFound w.beside
unfolding computing
beside-found = refl

pub variables-found : AreFound w.variables
unfolding computing
variables-found = refl

pub claims-found : AreFound w.claims
unfolding computing
claims-found = refl

pub instances-found : AreFound w.instances
unfolding computing
instances-found = refl

pub first-found : AreFound w.first
unfolding computing
first-found = refl

pub tomasulo-found : AreFound w.tomasulo
unfolding computing
tomasulo-found = refl

pub other_passes-found : AreFound w.other_passes
unfolding computing
other_passes-found = refl
