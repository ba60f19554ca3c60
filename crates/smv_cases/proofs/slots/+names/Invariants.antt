use Rattle.std.proofs.Common.{length}
use Rattle.smv_cases.proofs.slots.+names.Given as goal

abbrev pub decreases-names : goal.decreases-names
decreases-names l = length l.keeps.now
