use Rattle.std.proofs.Common.{length}
use Rattle.smv_complete.proofs.demands.+all_met_for.Given as goal

abbrev pub decreases-all_met_for : goal.decreases-all_met_for
decreases-all_met_for l = length l.demands.now
