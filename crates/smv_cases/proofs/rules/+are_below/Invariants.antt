use Rattle.std.proofs.Common.{length}
use Rattle.smv_cases.proofs.rules.+are_below.Given as goal

abbrev pub decreases-are_below : goal.decreases-are_below
decreases-are_below l = length l.slots.now
