use Rattle.std.proofs.Common.{length}
use Rattle.smv_cells.proofs.cells.+add_places.Given as goal

abbrev pub decreases-add_places : goal.decreases-add_places
decreases-add_places g l = length l.spots.now
