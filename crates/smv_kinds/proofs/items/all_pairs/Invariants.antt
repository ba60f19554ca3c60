use Rattle.std.proofs.Common.{◌≡◌, ◌++◌, drop}
use Rattle.std.specs.List.{flat_map}
use Rattle.law_designs.specs.Operands.{operand}
use Rattle.smv_expression_kinds.specs.Found.{vars_of, scope_of}
use Rattle.smv_kinds.proofs.items.all_pairs.Given as goal

abbrev pub invariant-loop-x : goal.invariant-loop-x
invariant-loop-x l =
    l.out.items ++ flat_map (λ pair. (operand (scope_of l.scope) (vars_of l.scope.tables.now.names l.vars) pair.left).faults) (drop l.x-index l.pairs)
    ≡ l.initial.out.items ++ flat_map (λ pair. (operand (scope_of l.scope) (vars_of l.scope.tables.now.names l.vars) pair.left).faults) l.pairs
