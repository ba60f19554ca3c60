use Rattle.std.proofs.Common.{◌∙◌, ◌≡◌, ◌-◌, ◌+◌, List, map, ap, sym, arith}
use Rattle.smv_core.specs.Values.{numbers_from}
use Rattle.smv_core.specs.declared.flat.Simple.{Simple}
use Rattle.law_obligations.specs.Places.{named_in}
use Rattle.smv_spots.specs.declared.spots.Spot.{Spot}
use Rattle.smv_spots.specs.declared.places.Sort.TheVariants as sort
use Rattle.smv_spots.specs.Spots.{place_by, spot_of}
use Rattle.smv_spots.proofs.TypeLaws.{range_named, enum_named, classes_named}
use Rattle.smv_spots.proofs.places.named_over.Goals as goal

pub returns-in_ok-spots-in-Range : goal.returns-in_ok-spots-in-Range
returns-in_ok-spots-in-Range c w h =
    let made : c.in_ok-spots-in-Range.spots.items ≡ map (spot_of sort.Number) (numbers_from c.in-Range.low (c.in-Range.high + 1 - c.in-Range.low)) = grind (arith, c.in_ok-spots-in-Range.ensures) in
    ap (λ (l : List Spot). map (place_by c.args.design.now) l) made ∙ (range_named c.args.design.now w c.in-Range.low c.in-Range.high ∙ ap (λ (t : Simple). named_in w t) (sym c.in-Range.is))

pub returns-in_ok-spots-in-Enum : goal.returns-in_ok-spots-in-Enum
returns-in_ok-spots-in-Enum c w h =
    let made : c.in_ok-spots-in-Enum.spots.items ≡ map (spot_of (sort.Constant c.in-Enum.list)) (numbers_from 0 c.constants.result) = grind (arith, c.in_ok-spots-in-Enum.ensures) in
    ap (λ (l : List Spot). map (place_by c.args.design.now) l) made ∙ (enum_named c.args.design.now w c.in-Enum.list c.constants.result h.enums c.constants.ensures ∙ ap (λ (t : Simple). named_in w t) (sym c.in-Enum.is))

pub returns-in_ok-spots-in-Set : goal.returns-in_ok-spots-in-Set
returns-in_ok-spots-in-Set c w h =
    let made : c.in_ok-spots-in-Set.spots.items ≡ map (spot_of (sort.Class c.in-Set.set)) (numbers_from 0 c.classes.result) = grind (arith, c.in_ok-spots-in-Set.ensures) in
    ap (λ (l : List Spot). map (place_by c.args.design.now) l) (made ∙ ap (λ n. map (spot_of (sort.Class c.in-Set.set)) (numbers_from 0 n)) c.classes.ensures) ∙ (classes_named c.args.design.now c.args.types.now w c.in-Set.set h ∙ ap (λ (t : Simple). named_in w t) (sym c.in-Set.is))
