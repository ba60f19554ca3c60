use Rattle.std.proofs.Common.{length}
use Rattle.smv_scope.proofs.paths.+behind.Given as goal

abbrev pub decreases-behind : goal.decreases-behind
decreases-behind l = length l.words.now
