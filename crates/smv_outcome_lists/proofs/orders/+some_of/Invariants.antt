use Rattle.std.proofs.Common.{length}
use Rattle.smv_outcome_lists.proofs.orders.+some_of.Given as goal

abbrev pub decreases-some_of : goal.decreases-some_of
decreases-some_of g l = length l.offers.now
