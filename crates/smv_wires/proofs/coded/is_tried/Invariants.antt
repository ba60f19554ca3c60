use Rattle.std.proofs.Common.{◌≡◌, drop}
use Rattle.std.specs.List.{list_any}
use Rattle.smv_elements.specs.Elements.{same_element}
use Rattle.smv_wires.proofs.coded.is_tried.Given as goal

abbrev pub invariant-loop-other : goal.invariant-loop-other
invariant-loop-other l = list_any (same_element l.element) (drop l.other-index l.tried) ≡ list_any (same_element l.element) l.tried
