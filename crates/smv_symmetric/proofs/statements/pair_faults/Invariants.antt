use Rattle.std.proofs.Common.{◌≡◌, map, drop}
use Rattle.smv_first_fault.specs.Firsts.{earlier_of}
use Rattle.law_designs.specs.FlatKinds.{kind_of}
use Rattle.smv_symmetric.specs.Plain.{first_among, fault_in}
use Rattle.smv_symmetric.proofs.statements.pair_faults.Given as goal

abbrev pub invariant-loop-pair : goal.invariant-loop-pair
invariant-loop-pair l = earlier_of l.found (first_among (map (λ pair. fault_in l.flat_text (map kind_of l.vars) pair.left) (drop l.pair-index l.pairs))) ≡ first_among (map (λ pair. fault_in l.flat_text (map kind_of l.vars) pair.left) l.pairs)
