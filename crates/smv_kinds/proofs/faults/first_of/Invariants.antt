use Rattle.std.proofs.Common.{◌≡◌, drop}
use Rattle.smv_mentions.specs.FirstFault.{first_of}
use Rattle.smv_first_fault.specs.Firsts.{earlier_of}
use Rattle.smv_kinds.proofs.faults.first_of.Given as goal

abbrev pub invariant-loop-fault : goal.invariant-loop-fault
invariant-loop-fault l = earlier_of l.found (first_of (drop l.fault-index l.faults)) ≡ first_of l.faults
