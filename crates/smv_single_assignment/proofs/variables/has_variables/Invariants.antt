use Rattle.std.proofs.Common.{◌≡◌, drop}
use Rattle.std.specs.List.{list_any, list_all}
use Rattle.law_designs.specs.SingleFaults as spec
use Rattle.smv_single_assignment.proofs.variables.has_variables.Given as goal

abbrev pub invariant-loop-var : goal.invariant-loop-var
invariant-loop-var l =
    list_all (λ k. list_any (spec.is_variable k) l.x.left.now) (drop l.var-index l.x.around.items) ≡ list_all (λ k. list_any (spec.is_variable k) l.x.left.now) l.x.around.items
