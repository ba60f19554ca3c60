use Rattle.std.proofs.Common.{length}
use Rattle.smv_eval.proofs.demands.+all_met.Given as goal

abbrev pub decreases-all_met : goal.decreases-all_met
decreases-all_met l = length l.demands.now
