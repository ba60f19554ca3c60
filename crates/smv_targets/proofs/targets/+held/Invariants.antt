use Rattle.std.proofs.Common.{length}
use Rattle.smv_targets.proofs.targets.+held.Given as goal

abbrev pub decreases-held : goal.decreases-held
decreases-held g l = length l.table.now
