use Rattle.std.proofs.Common.{length}
use Rattle.smv_targets.proofs.offered.+some_given.Given as goal

abbrev pub decreases-some_given : goal.decreases-some_given
decreases-some_given g l = length l.offers.now
