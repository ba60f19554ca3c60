use Rattle.std.proofs.Common.{◌≡◌, ◌++◌, map, drop}
use Rattle.smv_flatten_families.specs.Families.{in_place, written}
use Rattle.smv_flatten_families.proofs.numbers.written_families.Given as goal

abbrev pub invariant-loop-placed : goal.invariant-loop-placed
invariant-loop-placed l = l.families ++ map (λ placed. written (in_place placed)) (drop l.placed-index l.all) ≡ map (λ placed. written (in_place placed)) l.all
