use Rattle.std.proofs.Common.{length}
use Rattle.smv_cases.proofs.grow.+keep_all.Given as goal

abbrev pub decreases-keep_all : goal.decreases-keep_all
decreases-keep_all l = length l.some.now
