use Rattle.std.proofs.Common.{length}
use Rattle.smv_targets.proofs.offered.+some_other.Given as goal

abbrev pub decreases-some_other : goal.decreases-some_other
decreases-some_other g l = length l.offers.now
