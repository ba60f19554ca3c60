use Rattle.std.proofs.Common.{◌≡◌, ◌++◌, map, drop}
use Rattle.smv_flatten_families.specs.Held.{scope_here}
use Rattle.law_designs.specs.Flattening.{whole}
use Rattle.smv_flatten.proofs.copies.all_whole.Given as goal

abbrev pub invariant-loop-of : goal.invariant-loop-of
invariant-loop-of l = l.copies ++ map (whole (scope_here l.here)) (drop l.of-index l.refs) ≡ map (whole (scope_here l.here)) l.refs
