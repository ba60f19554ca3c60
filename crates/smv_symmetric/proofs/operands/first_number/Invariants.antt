use Rattle.std.proofs.Common.{◌≡◌, map, drop}
use Rattle.smv_first_fault.specs.Firsts.{earlier_of}
use Rattle.smv_symmetric.specs.Plain.{first_among, fault_if_number}
use Rattle.smv_symmetric.specs.Held.{as_met}
use Rattle.smv_symmetric.proofs.operands.first_number.Given as goal

abbrev pub invariant-loop-x : goal.invariant-loop-x
invariant-loop-x l = earlier_of l.found (first_among (map fault_if_number (map as_met (drop l.x-index l.operands)))) ≡ first_among (map fault_if_number (map as_met l.operands))
