use Rattle.std.proofs.Common.{◌≡◌, map, take}
use Rattle.smv_bit_order.specs.Wires.{element_at}
use Rattle.smv_bit_order.proofs.candidates.elements_at.Given as goal

abbrev pub invariant-loop-place : goal.invariant-loop-place
invariant-loop-place l = l.elements.items ≡ map (element_at l.all) (take l.place-index l.places)
