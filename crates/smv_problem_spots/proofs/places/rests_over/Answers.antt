use Rattle.std.proofs.Common.{◌≡◌, ◌-◌, map, arith}
use Rattle.smv_core.specs.Values.{numbers_from}
use Rattle.smv_spots.specs.declared.places.Sort.TheVariants as sort
use Rattle.smv_spots.specs.Spots.{spot_of}
use Rattle.smv_problem_spots.proofs.WorldLaws.{set_rests}
use Rattle.smv_problem_spots.proofs.places.rests_over.Goals as goal

pub returns-in_ok-spots-in-Set : goal.returns-in_ok-spots-in-Set
returns-in_ok-spots-in-Set c w h =
    let made : c.in_ok-spots-in-Set.spots.items ≡ map (spot_of (sort.Rest c.in-Set.set)) (numbers_from 0 c.rests.result) = grind (arith, c.in_ok-spots-in-Set.ensures) in
    set_rests _ w h _ _ _ _ c.in-Set.is c.rests.ensures made
