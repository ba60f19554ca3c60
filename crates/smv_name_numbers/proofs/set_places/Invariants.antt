use Rattle.std.proofs.Common.{◌≡◌, ◌++◌, map, drop}
use Rattle.smv_name_numbers.specs.Places.{place_among}
use Rattle.smv_name_numbers.proofs.set_places.Given as goal

abbrev pub invariant-loop-info : goal.invariant-loop-info
invariant-loop-info l = l.places ++ map (λ info. place_among l.index info.name) (drop l.info-index l.sets) ≡ map (λ info. place_among l.index info.name) l.sets
