use Rattle.std.proofs.Common.{◌≡◌, ◌++◌, map, drop}
use Rattle.smv_flatten_families.specs.Held.{scope_here}
use Rattle.law_designs.specs.Flattening.{whole_use}
use Rattle.smv_flatten.proofs.copies.whole_uses.Given as goal

abbrev pub invariant-loop-part : goal.invariant-loop-part
invariant-loop-part l = l.copies ++ map (whole_use (scope_here l.here)) (drop l.part-index l.uses) ≡ map (whole_use (scope_here l.here)) l.uses
