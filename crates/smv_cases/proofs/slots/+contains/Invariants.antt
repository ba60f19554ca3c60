use Rattle.std.proofs.Common.{length}
use Rattle.smv_cases.proofs.slots.+contains.Given as goal

abbrev pub decreases-contains : goal.decreases-contains
decreases-contains l = length l.vars.now
