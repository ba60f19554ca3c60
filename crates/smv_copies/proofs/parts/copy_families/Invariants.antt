use Rattle.std.proofs.Common.{◌≡◌, ◌++◌, drop}
use Rattle.smv_copies.proofs.parts.copy_families.Given as goal

abbrev pub invariant-loop-family : goal.invariant-loop-family
invariant-loop-family l = l.copies ++ drop l.family-index l.families ≡ l.families
