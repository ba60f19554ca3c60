use Rattle.std.proofs.Common.{length}
use Rattle.smv_encode.proofs.times.+guards_by.Given as goal

abbrev pub decreases-guards_by : goal.decreases-guards_by
decreases-guards_by l = length l.guards.now
