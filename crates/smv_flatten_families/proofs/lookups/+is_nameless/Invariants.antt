use Rattle.std.proofs.Common.{length}
use Rattle.smv_flatten_families.proofs.lookups.+is_nameless.Given as goal

abbrev pub decreases-is_nameless : goal.decreases-is_nameless
decreases-is_nameless l = length l.parts.now
