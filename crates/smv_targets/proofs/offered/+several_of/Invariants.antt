use Rattle.std.proofs.Common.{length}
use Rattle.smv_targets.proofs.offered.+several_of.Given as goal

abbrev pub decreases-several_of : goal.decreases-several_of
decreases-several_of g l = length l.offers.now
