use Rattle.std.proofs.Common.{length}
use Rattle.smv_cases.proofs.rules.+grows.Given as goal

abbrev pub decreases-grows : goal.decreases-grows
decreases-grows l = length l.slots.now
