use Rattle.std.proofs.Common.{length}
use Rattle.smv_outcome_lists.proofs.pairs.+remainders.Given as goal

abbrev pub decreases-remainders : goal.decreases-remainders
decreases-remainders g l = length l.us.now
