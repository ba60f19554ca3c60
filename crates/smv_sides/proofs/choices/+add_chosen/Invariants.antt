use Rattle.std.proofs.Common.{length}
use Rattle.smv_sides.proofs.choices.+add_chosen.Given as goal

abbrev pub decreases-add_chosen : goal.decreases-add_chosen
decreases-add_chosen g l = length l.spots.now
