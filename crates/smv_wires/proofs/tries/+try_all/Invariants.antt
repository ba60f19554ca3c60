use Rattle.std.proofs.Common.{length}
use Rattle.smv_wires.proofs.tries.+try_all.Given as goal

abbrev pub decreases-try_all : goal.decreases-try_all
decreases-try_all l = length l.tried.now
