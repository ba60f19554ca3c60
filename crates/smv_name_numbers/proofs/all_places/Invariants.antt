use Rattle.std.proofs.Common.{◌≡◌, ◌++◌, map, drop}
use Rattle.smv_name_numbers.specs.Places.{place_among}
use Rattle.smv_name_numbers.proofs.all_places.Given as goal

abbrev pub invariant-loop-names : goal.invariant-loop-names
invariant-loop-names l = l.places ++ map (map (place_among l.index)) (drop l.names-index l.enums) ≡ map (map (place_among l.index)) l.enums
