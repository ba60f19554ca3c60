use Rattle.std.proofs.Common.{length}
use Rattle.smv_eval.proofs.demands.+all_may_hold.Given as goal

abbrev pub decreases-all_may_hold : goal.decreases-all_may_hold
decreases-all_may_hold l = length l.guards.now
