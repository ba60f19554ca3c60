use Rattle.std.proofs.Common.{◌≡◌, ◌++◌, map, drop}
use Rattle.smv_name_numbers.specs.Places.{place_among}
use Rattle.smv_name_numbers.proofs.places_of.Given as goal

abbrev pub invariant-loop-name : goal.invariant-loop-name
invariant-loop-name l = l.places ++ map (place_among l.index) (drop l.name-index l.names) ≡ map (place_among l.index) l.names
