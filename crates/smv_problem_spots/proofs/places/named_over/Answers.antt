use Rattle.std.proofs.Common.{◌≡◌, ◌-◌, ◌+◌, map, arith}
use Rattle.smv_core.specs.Values.{numbers_from}
use Rattle.smv_spots.specs.declared.places.Sort.TheVariants as sort
use Rattle.smv_spots.specs.Spots.{spot_of}
use Rattle.smv_problem_spots.proofs.WorldLaws.{range_named, enum_named, set_named}
use Rattle.smv_problem_spots.proofs.places.named_over.Goals as goal

pub returns-in_ok-spots-in-Range : goal.returns-in_ok-spots-in-Range
returns-in_ok-spots-in-Range c w h =
    let made : c.in_ok-spots-in-Range.spots.items ≡ map (spot_of sort.Number) (numbers_from c.in-Range.low (c.in-Range.high + 1 - c.in-Range.low)) = grind (arith, c.in_ok-spots-in-Range.ensures) in
    range_named w _ _ _ _ c.in-Range.is made

pub returns-in_ok-spots-in-Enum : goal.returns-in_ok-spots-in-Enum
returns-in_ok-spots-in-Enum c w h =
    let made : c.in_ok-spots-in-Enum.spots.items ≡ map (spot_of (sort.Constant c.in-Enum.list)) (numbers_from 0 c.constants.result) = grind (arith, c.in_ok-spots-in-Enum.ensures) in
    enum_named _ w h _ _ _ _ c.in-Enum.is c.constants.ensures made

pub returns-in_ok-spots-in-Set : goal.returns-in_ok-spots-in-Set
returns-in_ok-spots-in-Set c w h =
    let made : c.in_ok-spots-in-Set.spots.items ≡ map (spot_of (sort.Class c.in-Set.set)) (numbers_from 0 c.classes.result) = grind (arith, c.in_ok-spots-in-Set.ensures) in
    set_named _ w h _ _ _ _ c.in-Set.is c.classes.ensures made
