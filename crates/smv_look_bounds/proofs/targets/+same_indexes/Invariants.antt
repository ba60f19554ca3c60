use Rattle.std.proofs.Common.{length}
use Rattle.smv_look_bounds.proofs.targets.+same_indexes.Given as goal

abbrev pub decreases-same_indexes : goal.decreases-same_indexes
decreases-same_indexes l = length l.left.now
