use Rattle.std.proofs.Common.{length}
use Rattle.smv_mentions.proofs.mentions.+bound_at.Given as goal

abbrev pub decreases-bound_at : goal.decreases-bound_at
decreases-bound_at l = length l.vars.now
