use Rattle.std.proofs.Common.{length}
use Rattle.smv_cells.proofs.cells.+add_cell.Given as goal

abbrev pub decreases-add_cell : goal.decreases-add_cell
decreases-add_cell g l = length l.cells.now
