use Rattle.std.proofs.Common.{length}
use Rattle.smv_cases.proofs.rules.+used.Given as goal

abbrev pub decreases-used : goal.decreases-used
decreases-used l = length l.slots.now
