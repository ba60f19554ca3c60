use Rattle.std.proofs.Common.{length}
use Rattle.smv_expression_kinds.proofs.paths.+walk.Given as goal

abbrev pub decreases-walk : goal.decreases-walk
decreases-walk l = length l.parts.now
