use Rattle.std.proofs.Common.{length}
use Rattle.smv_walks.proofs.demands.+some_may_be_it.Given as goal

abbrev pub decreases-some_may_be_it : goal.decreases-some_may_be_it
decreases-some_may_be_it g l = length l.offers.now
