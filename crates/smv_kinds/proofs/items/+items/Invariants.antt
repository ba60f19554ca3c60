use Rattle.std.proofs.Common.{◌≡◌, ◌++◌, drop}
use Rattle.std.specs.List.{flat_map}
use Rattle.law_designs.specs.KindFaults.{in_item}
use Rattle.smv_expression_kinds.specs.Found.{vars_of, scope_of}
use Rattle.smv_kinds.proofs.items.+items.Given as goal

abbrev pub invariant-items-loop-x : goal.invariant-items-loop-x
invariant-items-loop-x l =
    l.out.items ++ flat_map (in_item (scope_of l.scope) (vars_of l.scope.tables.now.names l.vars)) (drop l.x-index l.parts) ≡ l.initial.out.items ++ flat_map (in_item (scope_of l.scope) (vars_of l.scope.tables.now.names l.vars)) l.parts
