use Rattle.std.proofs.Common.{length}
use Rattle.smv_outcome_lists.proofs.pairs.+added_each.Given as goal

abbrev pub decreases-added_each : goal.decreases-added_each
decreases-added_each g l = length l.vs.now
