use Rattle.std.proofs.Common.{◌≡◌, ◌++◌, drop}
use Rattle.std.specs.List.{flat_map}
use Rattle.smv_look_explain.specs.Others.{lines_along, other_lines}
use Rattle.smv_look_explain.proofs.others.lines_along.Given as goal

abbrev pub invariant-loop-at : goal.invariant-loop-at
invariant-loop-at l = l.out.items ++ flat_map (other_lines l.text l.fault.number) (drop l.at-index l.places) ≡ lines_along l.text l.fault.number l.fault.at l.places
