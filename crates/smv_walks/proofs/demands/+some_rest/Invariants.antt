use Rattle.std.proofs.Common.{length}
use Rattle.smv_walks.proofs.demands.+some_rest.Given as goal

abbrev pub decreases-some_rest : goal.decreases-some_rest
decreases-some_rest l = length l.indexes.now
