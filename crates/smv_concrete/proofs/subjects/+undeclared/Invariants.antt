use Rattle.std.proofs.Common.{length}
use Rattle.smv_concrete.proofs.subjects.+undeclared.Given as goal

abbrev pub decreases-undeclared : goal.decreases-undeclared
decreases-undeclared l = length l.sets.now
