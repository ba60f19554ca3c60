-- By computing the design of each text.
use Rattle.std.proofs.Common.{refl}
use Rattle.worked_texts.specs.SingleAssignmentWorked.{AreDesigned, defs, heads, whole}
use Rattle.worked_texts.specs.WorkedDesigns as w
use Rattle.worked_texts.proofs.SingleAssignmentComputing.{computing}

pub definitions-designed : AreDesigned defs w.definitions
unfolding computing
definitions-designed = refl

pub designs-designed : AreDesigned whole w.designs
unfolding computing
designs-designed = refl

pub heads-designed : AreDesigned heads w.heads
unfolding computing
heads-designed = refl
