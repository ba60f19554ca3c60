-- By computing the left sides of each text.
use Rattle.std.proofs.Common.{refl}
use Rattle.worked_texts.specs.Tomasulo.{machine}
use Rattle.worked_texts.specs.Right.{small}
use Rattle.worked_texts.proofs.FlatteningComputing.{computing}
use Rattle.worked_texts.specs.SingleAssignmentWorked.{HasWholeLeftSides}

pub small-whole : HasWholeLeftSides small
unfolding computing
small-whole = refl

pub machine-whole : HasWholeLeftSides machine
unfolding computing
machine-whole = refl
