use Rattle.std.proofs.Common.{◌≡◌, ◌++◌, map, drop}
use Rattle.std.specs.List.{flat_map}
use Rattle.smv_single_assignment.specs.Held.{standing_of, assigned_of}
use Rattle.smv_single_assignment.proofs.assignments.assignments.Given as goal

abbrev pub invariant-loop-x : goal.invariant-loop-x
invariant-loop-x l = map standing_of l.all.items ++ flat_map assigned_of (drop l.x-index l.items) ≡ flat_map assigned_of l.items
