use Rattle.std.proofs.Common.{◌≡◌, map, take}
use Rattle.smv_single_assignment.specs.Held.{standing_of}
use Rattle.smv_single_assignment.specs.Classes.{value_by}
use Rattle.smv_single_assignment.proofs.classes.values.Given as goal

abbrev pub invariant-loop-x : goal.invariant-loop-x
invariant-loop-x l = l.values.items ≡ map (value_by l.by) (map standing_of (take l.x-index l.all))
