use Rattle.std.proofs.Common.{[], ◌∷◌, ◌++◌, ap, ◌∙◌, arith}
use Rattle.smv_spots.specs.declared.spots.Spot.{Spot}
use Rattle.smv_cone.proofs.SpotLaws.{spots-kept, spots-over}
use Rattle.smv_cone.proofs.parts.spots_of.Goals as goal

pub loop-place-preserved : goal.loop-place-preserved
loop-place-preserved c =
    let left = c.fewer-count.ensures.left in
    let right = c.fewer-count.ensures.right in
    let test = c.loop-place-test.true in
    spots-kept c.args.over.now c.args.classes.now c.loop-place.place _ _ c.loop-place.spots.items _ _ (omega (arith, left, test)) (omega (arith, right, test))
    (c.in_ok-push.ensures.items ∙ ap (λ (s : Spot). c.loop-place.spots.items ++ s ∷ []) c.spot_in-spot.ensures) c.loop-place.invariant

pub returns : goal.returns
returns c = spots-over c.args.over.now c.args.classes.now c.loop-place.place c.fewer-count.result c.loop-place.spots.items _ c.loop-place-test.false c.fewer-count.ensures.one c.loop-place.invariant
