use Rattle.std.proofs.Common.{arith}
use Rattle.std.proofs.lemmas.Grind.{common_steps}
use Rattle.smv_flatten.proofs.PlaceLaws.{placed-step}
use Rattle.smv_flatten.proofs.places.placed.Goals as goal

pub loop-i-preserved : goal.loop-i-preserved
loop-i-preserved c = record {
  placed = placed-step c.loop-i.all.items _ c.loop-i.i c.loop-i.place c.in_ok-place.place c.index_mut.result.now c.set_place.new.item (omega arith) c.index_mut.ensures.value c.in_ok-place.ensures.item c.in_ok-place.ensures.next c.loop-i.invariant.placed;
  same_length = grind (arith, common_steps);
}
