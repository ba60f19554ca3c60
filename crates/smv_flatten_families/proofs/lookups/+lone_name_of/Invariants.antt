use Rattle.std.proofs.Common.{length}
use Rattle.smv_flatten_families.proofs.lookups.+lone_name_of.Given as goal

abbrev pub decreases-lone_name_of : goal.decreases-lone_name_of
decreases-lone_name_of l = length l.parts.now
