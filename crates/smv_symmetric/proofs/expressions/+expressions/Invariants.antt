use Rattle.std.proofs.Common.{◌≡◌, map, drop}
use Rattle.smv_first_fault.specs.Firsts.{earlier_of}
use Rattle.law_designs.specs.FlatKinds.{kind_of}
use Rattle.smv_symmetric.specs.Plain.{first_among, fault_in, signed_fault, member_fault}
use Rattle.smv_symmetric.proofs.expressions.+expressions.Given as goal

abbrev pub invariant-faults_in-loop-x : goal.invariant-faults_in-loop-x
invariant-faults_in-loop-x l = earlier_of l.found (first_among (map (fault_in l.flat_text (map kind_of l.vars)) (drop l.x-index l.parts))) ≡ first_among (map (fault_in l.flat_text (map kind_of l.vars)) l.parts)

abbrev pub invariant-signed_faults-loop-x : goal.invariant-signed_faults-loop-x
invariant-signed_faults-loop-x l = earlier_of l.found (first_among (map (signed_fault l.flat_text (map kind_of l.vars)) (drop l.x-index l.more))) ≡ first_among (map (signed_fault l.flat_text (map kind_of l.vars)) l.more)

abbrev pub invariant-member_faults-loop-x : goal.invariant-member_faults-loop-x
invariant-member_faults-loop-x l = earlier_of l.found (first_among (map (member_fault l.flat_text (map kind_of l.vars)) (drop l.x-index l.members))) ≡ first_among (map (member_fault l.flat_text (map kind_of l.vars)) l.members)
