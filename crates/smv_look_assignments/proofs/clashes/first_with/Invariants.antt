use Rattle.std.proofs.Common.{◌≡◌, drop, map}
use Rattle.std.specs.List.{flat_map}
use Rattle.smv_mentions.specs.Scopes.{first_of_places}
use Rattle.smv_mentions.specs.NameFaults as faults
use Rattle.smv_first_fault.specs.Firsts.{least}
use Rattle.smv_single_assignment.specs.Held.{standing_of}
use Rattle.smv_single_assignment.specs.Clashes.{clash_by}
use Rattle.smv_look_assignments.proofs.clashes.first_with.Given as goal

abbrev pub invariant-loop-a : goal.invariant-loop-a
invariant-loop-a l =
    first_of_places l.found (least (flat_map (λ a. faults.place_if (clash_by l.by a (standing_of l.b)) a.at) (map standing_of (drop l.a-index l.earlier))))
    ≡ least (flat_map (λ a. faults.place_if (clash_by l.by a (standing_of l.b)) a.at) (map standing_of l.earlier))
