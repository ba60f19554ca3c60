use Rattle.std.proofs.Common.{◌≡◌, ◌++◌, map, drop}
use Rattle.law_designs.specs.FlatKinds.{kind_of}
use Rattle.smv_symmetric.specs.Plain.{member_operand}
use Rattle.smv_symmetric.specs.Held.{as_met}
use Rattle.smv_symmetric.proofs.operands.add_members.Given as goal

abbrev pub invariant-loop-x : goal.invariant-loop-x
invariant-loop-x l = map as_met l.out.items ++ map (member_operand l.flat_text (map kind_of l.vars)) (drop l.x-index l.members) ≡ map as_met l.initial.out.items ++ map (member_operand l.flat_text (map kind_of l.vars)) l.members
