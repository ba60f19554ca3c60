use Rattle.std.proofs.Common.{length}
use Rattle.smv_outcome_lists.proofs.combined.+union_of.Given as goal

abbrev pub decreases-union_of : goal.decreases-union_of
decreases-union_of g l = length l.each.now
