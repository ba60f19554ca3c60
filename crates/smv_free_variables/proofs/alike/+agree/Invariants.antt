use Rattle.std.proofs.Common.{length}
use Rattle.smv_free_variables.proofs.alike.+agree.Given as goal

abbrev pub decreases-agree : goal.decreases-agree
decreases-agree l = length l.b.now
