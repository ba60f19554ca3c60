use Rattle.std.proofs.Common.{length}
use Rattle.smv_outcome_lists.proofs.pairs.+compared_each.Given as goal

abbrev pub decreases-compared_each : goal.decreases-compared_each
decreases-compared_each g l = length l.vs.now
