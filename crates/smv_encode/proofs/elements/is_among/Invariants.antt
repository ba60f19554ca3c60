use Rattle.std.proofs.Common.{◌≡◌, drop}
use Rattle.std.specs.List.{list_any}
use Rattle.smv_elements.specs.Elements.{same_element}
use Rattle.smv_encode.proofs.elements.is_among.Given as goal

abbrev pub invariant-loop-wire : goal.invariant-loop-wire
invariant-loop-wire l = list_any (same_element l.element) (drop l.wire-index l.wires) ≡ list_any (same_element l.element) l.wires
