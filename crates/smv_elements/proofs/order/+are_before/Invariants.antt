use Rattle.std.proofs.Common.{length}
use Rattle.smv_elements.proofs.order.+are_before.Given as goal

abbrev pub decreases-are_before : goal.decreases-are_before
decreases-are_before l = length l.cs.now
