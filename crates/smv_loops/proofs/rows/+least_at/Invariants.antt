use Rattle.std.proofs.Common.{length}
use Rattle.smv_loops.proofs.rows.+least_at.Given as goal

abbrev pub decreases-least_at : goal.decreases-least_at
decreases-least_at l = length l.over.now
