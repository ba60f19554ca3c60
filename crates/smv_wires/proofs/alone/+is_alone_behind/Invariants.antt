use Rattle.std.proofs.Common.{length}
use Rattle.smv_wires.proofs.alone.+is_alone_behind.Given as goal

abbrev pub decreases-is_alone_behind : goal.decreases-is_alone_behind
decreases-is_alone_behind l = length l.offers.now
