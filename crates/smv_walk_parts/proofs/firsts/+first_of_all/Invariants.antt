use Rattle.std.proofs.Common.{length}
use Rattle.smv_walk_parts.proofs.firsts.+first_of_all.Given as goal

abbrev pub decreases-first_of_all : goal.decreases-first_of_all
decreases-first_of_all g l = length l.each.now
