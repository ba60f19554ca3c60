use Rattle.std.proofs.Common.{◌≡◌, [], drop, map}
use Rattle.smv_mentions.specs.Scopes.{first_of_places}
use Rattle.smv_first_fault.specs.Firsts.{least}
use Rattle.smv_single_assignment.specs.Held.{standing_of}
use Rattle.smv_look_assignments.specs.Walks.{parts_met}
use Rattle.smv_look_assignments.proofs.conflicts.+meetings.Given as goal

abbrev pub invariant-block-loop-part : goal.invariant-block-loop-part
invariant-block-loop-part l =
    first_of_places l.found (least (parts_met l.at l.layer l.around (map standing_of l.before.items) (drop l.part-index l.parts))) ≡ least (parts_met l.at l.layer l.around [] l.parts)
