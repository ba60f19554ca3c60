use Rattle.std.proofs.Common.{length}
use Rattle.smv_expression_kinds.proofs.paths.+behind.Given as goal

abbrev pub decreases-behind : goal.decreases-behind
decreases-behind l = length l.parts.now
