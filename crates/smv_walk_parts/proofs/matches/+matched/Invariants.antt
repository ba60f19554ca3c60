use Rattle.std.proofs.Common.{length}
use Rattle.smv_walk_parts.proofs.matches.+matched.Given as goal

abbrev pub decreases-matched : goal.decreases-matched
decreases-matched g l = length l.left.now
