use Rattle.std.proofs.Common.{◌≡◌, drop}
use Rattle.std.specs.List.{flat_map}
use Rattle.smv_mentions.specs.Scopes.{first_of_places}
use Rattle.smv_first_fault.specs.Firsts.{least}
use Rattle.law_designs.specs.WholeText.{claims_of}
use Rattle.law_designs.specs.SingleFaults as spec
use Rattle.smv_single_assignment.proofs.variables.first_unnamed.Given as goal

abbrev pub invariant-loop-x : goal.invariant-loop-x
invariant-loop-x l = first_of_places l.found (least (flat_map spec.unnamed (claims_of (drop l.x-index l.items)))) ≡ least (flat_map spec.unnamed (claims_of l.items))
