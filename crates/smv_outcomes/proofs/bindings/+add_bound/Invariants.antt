use Rattle.std.proofs.Common.{length}
use Rattle.smv_outcomes.proofs.bindings.+add_bound.Given as goal

abbrev pub decreases-add_bound : goal.decreases-add_bound
decreases-add_bound l = length l.spots.now
