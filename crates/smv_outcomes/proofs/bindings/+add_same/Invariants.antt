use Rattle.std.proofs.Common.{length}
use Rattle.smv_outcomes.proofs.bindings.+add_same.Given as goal

abbrev pub decreases-add_same : goal.decreases-add_same
decreases-add_same g l = length l.bindings.now
