use Rattle.std.proofs.Common.{length}
use Rattle.smv_cases.proofs.rules.+count.Given as goal

abbrev pub decreases-count : goal.decreases-count
decreases-count l = length l.slots.now
