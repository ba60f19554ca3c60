use Rattle.std.proofs.Common.{length}
use Rattle.smv_walk_parts.proofs.lefts.+is_elsewhere.Given as goal

abbrev pub decreases-is_elsewhere : goal.decreases-is_elsewhere
decreases-is_elsewhere l = length l.left.now
