use Rattle.std.proofs.Common.{length}
use Rattle.smv_symmetric.proofs.operands.+wanted_each.Given as goal

abbrev pub decreases-wanted_each : goal.decreases-wanted_each
decreases-wanted_each l = length l.over.now
