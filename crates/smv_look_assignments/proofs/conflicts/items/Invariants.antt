use Rattle.std.proofs.Common.{◌≡◌, [], drop, map}
use Rattle.smv_mentions.specs.Scopes.{first_of_places}
use Rattle.smv_first_fault.specs.Firsts.{least}
use Rattle.smv_single_assignment.specs.Held.{assigned_of, standing_of}
use Rattle.smv_look_assignments.specs.Assignments.{item_met}
use Rattle.smv_look_assignments.specs.Walks.{along}
use Rattle.smv_look_assignments.proofs.conflicts.items.Given as goal

abbrev pub invariant-loop-x : goal.invariant-loop-x
invariant-loop-x l =
    first_of_places l.found (least (along (item_met l.at) assigned_of (map standing_of l.before.items) (drop l.x-index l.items))) ≡ least (along (item_met l.at) assigned_of [] l.items)
