use Rattle.std.proofs.Common.{◌≡◌, drop, map}
use Rattle.std.specs.List.{flat_map}
use Rattle.smv_mentions.specs.Scopes.{first_of_places}
use Rattle.smv_first_fault.specs.Firsts.{least}
use Rattle.law_designs.specs.SingleFaults as spec
use Rattle.smv_single_assignment.specs.Held.{standing_of}
use Rattle.smv_single_assignment.proofs.variables.first_lacking.Given as goal

abbrev pub invariant-loop-x : goal.invariant-loop-x
invariant-loop-x l = first_of_places l.found (least (flat_map spec.lacking (map standing_of (drop l.x-index l.all)))) ≡ least (flat_map spec.lacking (map standing_of l.all))
