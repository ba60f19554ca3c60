use Rattle.std.proofs.Common.{◌≡◌, map, drop}
use Rattle.smv_first_fault.specs.Firsts.{earlier_of}
use Rattle.law_designs.specs.FlatKinds.{kind_of}
use Rattle.smv_symmetric.specs.Plain.{first_among, statement_fault}
use Rattle.smv_symmetric.proofs.statements.+statements.Given as goal

abbrev pub invariant-statement_faults-loop-x : goal.invariant-statement_faults-loop-x
invariant-statement_faults-loop-x l = earlier_of l.found (first_among (map (statement_fault l.flat_text (map kind_of l.vars)) (drop l.x-index l.parts))) ≡ first_among (map (statement_fault l.flat_text (map kind_of l.vars)) l.parts)
