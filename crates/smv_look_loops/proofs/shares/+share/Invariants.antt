use Rattle.std.proofs.Common.{length}
use Rattle.smv_look_loops.proofs.shares.+share.Given as goal

abbrev pub decreases-share : goal.decreases-share
decreases-share l = length l.over.now
