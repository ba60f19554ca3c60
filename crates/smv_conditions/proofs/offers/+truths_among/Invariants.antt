use Rattle.std.proofs.Common.{length}
use Rattle.smv_conditions.proofs.offers.+truths_among.Given as goal

abbrev pub decreases-truths_among : goal.decreases-truths_among
decreases-truths_among g l = length l.offers.now
