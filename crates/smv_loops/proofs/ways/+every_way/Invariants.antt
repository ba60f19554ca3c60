use Rattle.std.proofs.Common.{length}
use Rattle.smv_loops.proofs.ways.+every_way.Given as goal

abbrev pub decreases-every_way : goal.decreases-every_way
decreases-every_way l = length l.over.now
