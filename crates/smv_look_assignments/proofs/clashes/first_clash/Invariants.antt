use Rattle.std.proofs.Common.{◌≡◌, drop, map}
use Rattle.smv_mentions.specs.Scopes.{first_of_places}
use Rattle.smv_first_fault.specs.Firsts.{least}
use Rattle.smv_single_assignment.specs.Held.{standing_of}
use Rattle.smv_single_assignment.specs.Clashes.{clash_by}
use Rattle.smv_look_assignments.specs.Assignments as places
use Rattle.smv_look_assignments.proofs.clashes.first_clash.Given as goal

abbrev pub invariant-loop-b : goal.invariant-loop-b
invariant-loop-b l =
    first_of_places l.found (least (places.clashing l.at (clash_by l.by) (map standing_of l.earlier) (map standing_of (drop l.b-index l.later))))
    ≡ least (places.clashing l.at (clash_by l.by) (map standing_of l.earlier) (map standing_of l.later))
