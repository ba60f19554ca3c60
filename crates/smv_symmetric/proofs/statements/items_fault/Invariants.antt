use Rattle.std.proofs.Common.{◌≡◌, map, drop}
use Rattle.smv_first_fault.specs.Firsts.{earlier_of}
use Rattle.smv_symmetric.specs.Plain.{first_among, item_fault}
use Rattle.smv_symmetric.proofs.statements.items_fault.Given as goal

abbrev pub invariant-loop-x : goal.invariant-loop-x
invariant-loop-x l = earlier_of l.found (first_among (map (item_fault l.flat_text) (drop l.x-index l.items))) ≡ first_among (map (item_fault l.flat_text) l.items)
