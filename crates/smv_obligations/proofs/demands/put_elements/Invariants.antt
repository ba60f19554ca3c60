use Rattle.std.proofs.Common.{◌≡◌, ◌++◌, flat_map, drop}
use Rattle.smv_obligations.specs.Demands.{element_in_turn}
use Rattle.smv_obligations.proofs.demands.put_elements.Given as goal

abbrev pub invariant-loop-x : goal.invariant-loop-x
invariant-loop-x l = l.demands ++ flat_map (element_in_turn l.part l.timed l.time) (drop l.x-index l.elements) ≡ l.initial.demands ++ flat_map (element_in_turn l.part l.timed l.time) l.elements
