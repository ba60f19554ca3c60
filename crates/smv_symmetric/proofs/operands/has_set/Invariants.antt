use Rattle.std.proofs.Common.{◌≡◌, map, drop}
use Rattle.std.specs.List.{list_any}
use Rattle.law_designs.specs.SetOperands.{is_of_set}
use Rattle.smv_symmetric.specs.Held.{as_met}
use Rattle.smv_symmetric.proofs.operands.has_set.Given as goal

abbrev pub invariant-loop-x : goal.invariant-loop-x
invariant-loop-x l = list_any (λ x. is_of_set x.kind) (map as_met (drop l.x-index l.operands)) ≡ list_any (λ x. is_of_set x.kind) (map as_met l.operands)
