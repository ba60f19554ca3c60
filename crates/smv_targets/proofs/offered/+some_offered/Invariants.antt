use Rattle.std.proofs.Common.{length}
use Rattle.smv_targets.proofs.offered.+some_offered.Given as goal

abbrev pub decreases-some_offered : goal.decreases-some_offered
decreases-some_offered g l = length l.offers.now
