use Rattle.std.proofs.Common.{length}
use Rattle.smv_targets.proofs.offered.+is_offered.Given as goal

abbrev pub decreases-is_offered : goal.decreases-is_offered
decreases-is_offered g l = length l.offers.now
