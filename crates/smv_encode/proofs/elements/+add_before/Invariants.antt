use Rattle.std.proofs.Common.{length}
use Rattle.smv_encode.proofs.elements.+add_before.Given as goal

abbrev pub decreases-add_before : goal.decreases-add_before
decreases-add_before l = length l.elements.now
