use Rattle.std.proofs.Common.{◌≡◌, drop}
use Rattle.std.specs.List.{list_any}
use Rattle.law_designs.specs.SingleFaults as spec
use Rattle.smv_single_assignment.proofs.variables.is_index.Given as goal

abbrev pub invariant-loop-x : goal.invariant-loop-x
invariant-loop-x l = list_any (spec.is_variable l.var) (drop l.x-index l.left) ≡ list_any (spec.is_variable l.var) l.left
