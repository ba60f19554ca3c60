use Rattle.std.proofs.Common.{length}
use Rattle.smv_wires.proofs.alone.+marked_behind.Given as goal

abbrev pub decreases-marked_behind : goal.decreases-marked_behind
decreases-marked_behind l = length l.offers.now
