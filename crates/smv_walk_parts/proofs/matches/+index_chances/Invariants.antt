use Rattle.std.proofs.Common.{length}
use Rattle.smv_walk_parts.proofs.matches.+index_chances.Given as goal

abbrev pub decreases-index_chances : goal.decreases-index_chances
decreases-index_chances g l = length l.offers.now
