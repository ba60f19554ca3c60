use Rattle.std.proofs.lemmas.Slice.Zip.{either_empty_from_Zip}
use Rattle.smv_typed_spots.proofs.TypedLaws.{spots_end}
use Rattle.smv_typed_spots.proofs.spots.spots_over.Goals as goal

pub returns : goal.returns
returns c = spots_end _ _ _ _ (either_empty_from_Zip c.loop-over.over-iterator c.next.new.self c.next.result c.in-None.is c.next.ensures.steps) c.loop-over.invariant
