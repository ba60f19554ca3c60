use Rattle.std.proofs.Common.{◌≡◌, map, drop}
use Rattle.smv_first_fault.specs.Firsts.{earlier_of}
use Rattle.smv_layers.specs.Leaks.{first_among, read_fault, signed_fault, member_fault}
use Rattle.smv_layers.proofs.expressions.+expressions.Given as goal

abbrev pub invariant-read_faults-loop-x : goal.invariant-read_faults-loop-x
invariant-read_faults-loop-x l = earlier_of l.found (first_among (map (read_fault l.families) (drop l.x-index l.parts))) ≡ first_among (map (read_fault l.families) l.parts)

abbrev pub invariant-signed_faults-loop-x : goal.invariant-signed_faults-loop-x
invariant-signed_faults-loop-x l = earlier_of l.found (first_among (map (signed_fault l.families) (drop l.x-index l.more))) ≡ first_among (map (signed_fault l.families) l.more)

abbrev pub invariant-member_faults-loop-x : goal.invariant-member_faults-loop-x
invariant-member_faults-loop-x l = earlier_of l.found (first_among (map (member_fault l.families) (drop l.x-index l.members))) ≡ first_among (map (member_fault l.families) l.members)
