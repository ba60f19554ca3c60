use Rattle.std.proofs.Common.{◌-◌}
use Rattle.smv_loops.proofs.loops.+between.Given as goal

abbrev pub decreases-between : goal.decreases-between
decreases-between l = l.high - l.low
