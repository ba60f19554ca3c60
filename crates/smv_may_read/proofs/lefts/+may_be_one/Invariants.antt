use Rattle.std.proofs.Common.{length}
use Rattle.smv_may_read.proofs.lefts.+may_be_one.Given as goal

abbrev pub decreases-may_be_one : goal.decreases-may_be_one
decreases-may_be_one l = length l.elements.now
