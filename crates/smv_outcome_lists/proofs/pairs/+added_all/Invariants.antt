use Rattle.std.proofs.Common.{length}
use Rattle.smv_outcome_lists.proofs.pairs.+added_all.Given as goal

abbrev pub decreases-added_all : goal.decreases-added_all
decreases-added_all g l = length l.us.now
