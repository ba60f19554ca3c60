use Rattle.std.proofs.Common.{◌≡◌}
use Rattle.smv_first_fault.specs.Firsts.{least}
use Rattle.smv_single_assignment.specs.Clashes.{clash_by}
use Rattle.smv_single_assignment.specs.Links.{held, between}
use Rattle.law_designs.specs.SingleFaults.{later_places}
use Rattle.smv_single_assignment.proofs.earlier.first_clash.Given as goal

abbrev pub invariant-loop-place : goal.invariant-loop-place
invariant-loop-place l = l.found ≡ least (later_places (clash_by l.by) (between l.start l.middle (held l.table)) (between l.middle l.place (held l.table)))
