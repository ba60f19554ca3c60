use Rattle.std.proofs.Common.{length}
use Rattle.smv_outcome_lists.proofs.pairs.+compared_all.Given as goal

abbrev pub decreases-compared_all : goal.decreases-compared_all
decreases-compared_all g l = length l.us.now
