use Rattle.std.proofs.Common.{◌≡◌, ◌++◌}
use Rattle.smv_typed_spots.specs.TypedSpots.{class_spots}
use Rattle.smv_typed_spots.proofs.spots.spots_over.Given as goal

abbrev pub invariant-loop-over : goal.invariant-loop-over
invariant-loop-over l = l.spots.items ++ class_spots l.over-iterator.a.rest.now l.over-iterator.b.rest.now ≡ class_spots l.over l.classes
