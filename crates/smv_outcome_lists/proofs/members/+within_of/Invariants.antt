use Rattle.std.proofs.Common.{length}
use Rattle.smv_outcome_lists.proofs.members.+within_of.Given as goal

abbrev pub decreases-within_of : goal.decreases-within_of
decreases-within_of g l = length l.us.now
