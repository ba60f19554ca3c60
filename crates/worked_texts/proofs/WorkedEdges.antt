-- By computing the edges of each text.
use Rattle.std.proofs.Common.{refl}
use Rattle.worked_texts.specs.LoopsAndLayersWorked.{AreEdges}
use Rattle.worked_texts.specs.WorkedEdges as w
use Rattle.worked_texts.proofs.SingleAssignmentComputing.{computing}

pub assignments-found : AreEdges w.assignments
unfolding computing
assignments-found = refl

pub indexes-found : AreEdges w.indexes
unfolding computing
indexes-found = refl
