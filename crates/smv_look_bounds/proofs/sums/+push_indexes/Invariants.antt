use Rattle.std.proofs.Common.{length}
use Rattle.smv_look_bounds.proofs.sums.+push_indexes.Given as goal

abbrev pub decreases-push_indexes : goal.decreases-push_indexes
decreases-push_indexes l = length l.types.now
