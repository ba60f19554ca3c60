use Rattle.std.proofs.Common.{◌≡◌, ◌++◌, drop}
use Rattle.std.specs.List.{flat_map}
use Rattle.law_designs.specs.KindFaults.{in_stmt}
use Rattle.smv_expression_kinds.specs.Found.{vars_of, scope_of}
use Rattle.smv_kinds.specs.Found.{arm_faults}
use Rattle.smv_kinds.proofs.statements.+statements.Given as goal

abbrev pub invariant-block-loop-x : goal.invariant-block-loop-x
invariant-block-loop-x l =
    l.out.items ++ flat_map (in_stmt (scope_of l.scope) (vars_of l.scope.tables.now.names l.vars)) (drop l.x-index l.parts) ≡ l.initial.out.items ++ flat_map (in_stmt (scope_of l.scope) (vars_of l.scope.tables.now.names l.vars)) l.parts

abbrev pub invariant-all_arms-loop-x : goal.invariant-all_arms-loop-x
invariant-all_arms-loop-x l =
    l.out.items ++ flat_map (arm_faults (scope_of l.scope) (vars_of l.scope.tables.now.names l.vars)) (drop l.x-index l.arms)
    ≡ l.initial.out.items ++ flat_map (arm_faults (scope_of l.scope) (vars_of l.scope.tables.now.names l.vars)) l.arms
