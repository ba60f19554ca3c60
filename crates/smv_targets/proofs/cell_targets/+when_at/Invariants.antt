use Rattle.std.proofs.Common.{length}
use Rattle.smv_targets.proofs.cell_targets.+when_at.Given as goal

abbrev pub decreases-when_at : goal.decreases-when_at
decreases-when_at g l = length l.offers.now
