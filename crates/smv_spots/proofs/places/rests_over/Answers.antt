use Rattle.std.proofs.Common.{◌∙◌, ◌≡◌, ◌-◌, List, map, ap, sym, arith}
use Rattle.smv_core.specs.Values.{numbers_from}
use Rattle.smv_core.specs.declared.flat.Simple.{Simple}
use Rattle.law_obligations.specs.Places.{rests_in}
use Rattle.smv_spots.specs.declared.spots.Spot.{Spot}
use Rattle.smv_spots.specs.declared.places.Sort.TheVariants as sort
use Rattle.smv_spots.specs.Spots.{place_by, spot_of}
use Rattle.smv_spots.proofs.TypeLaws.{rests_listed}
use Rattle.smv_spots.proofs.places.rests_over.Goals as goal

pub returns-in_ok-spots-in-Set : goal.returns-in_ok-spots-in-Set
returns-in_ok-spots-in-Set c design w h =
    let made : c.in_ok-spots-in-Set.spots.items ≡ map (spot_of (sort.Rest c.in-Set.set)) (numbers_from 0 c.rests.result) = grind (arith, c.in_ok-spots-in-Set.ensures) in
    ap (λ (l : List Spot). map (place_by design) l) (made ∙ ap (λ n. map (spot_of (sort.Rest c.in-Set.set)) (numbers_from 0 n)) c.rests.ensures) ∙ (rests_listed design c.args.types.now w c.in-Set.set h ∙ ap (λ (t : Simple). rests_in w t) (sym c.in-Set.is))
