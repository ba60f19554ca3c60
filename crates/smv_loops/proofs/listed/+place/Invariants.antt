use Rattle.std.proofs.Common.{length}
use Rattle.smv_loops.proofs.listed.+place.Given as goal

abbrev pub decreases-place : goal.decreases-place
decreases-place l = length l.over.now
