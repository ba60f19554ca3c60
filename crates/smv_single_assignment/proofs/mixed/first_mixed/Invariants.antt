use Rattle.std.proofs.Common.{◌≡◌, take}
use Rattle.smv_first_fault.specs.Firsts.{least}
use Rattle.law_designs.specs.SingleFaults.{mixed}
use Rattle.smv_single_assignment.specs.Links.{held}
use Rattle.smv_single_assignment.proofs.mixed.first_mixed.Given as goal

abbrev pub invariant-loop-place : goal.invariant-loop-place
invariant-loop-place l = l.found ≡ least (mixed (take l.place (held l.table)))
