use Rattle.std.proofs.Common.{length}
use Rattle.smv_cases.proofs.rules.+has.Given as goal

abbrev pub decreases-has : goal.decreases-has
decreases-has l = length l.slots.now
