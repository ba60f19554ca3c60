use Rattle.std.proofs.Common.{length}
use Rattle.smv_eval.proofs.violations.+violates_after.Given as goal

abbrev pub decreases-violates_after : goal.decreases-violates_after
decreases-violates_after l = length l.states.now
