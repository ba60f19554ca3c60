use Rattle.std.proofs.Common.{length}
use Rattle.smv_may_read.proofs.lefts.+may_be_at.Given as goal

abbrev pub decreases-may_be_at : goal.decreases-may_be_at
decreases-may_be_at l = length l.left.now
