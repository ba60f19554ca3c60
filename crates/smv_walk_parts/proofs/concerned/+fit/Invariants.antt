use Rattle.std.proofs.Common.{length}
use Rattle.smv_walk_parts.proofs.concerned.+fit.Given as goal

abbrev pub decreases-fit : goal.decreases-fit
decreases-fit l = length l.left.now
