use Rattle.std.proofs.Common.{length}
use Rattle.smv_loops.proofs.cells.+count.Given as goal

abbrev pub decreases-count : goal.decreases-count
decreases-count l = length l.over.now
