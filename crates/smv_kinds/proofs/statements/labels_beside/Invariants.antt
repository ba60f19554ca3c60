use Rattle.std.proofs.Common.{◌≡◌, ◌++◌, drop}
use Rattle.std.specs.List.{flat_map}
use Rattle.law_designs.specs.Kinds.{alike_with}
use Rattle.smv_expression_kinds.specs.Forms.{kind_of}
use Rattle.smv_expression_kinds.specs.Found.{vars_of, scope_of}
use Rattle.smv_kinds.specs.Found.{labels_of}
use Rattle.smv_kinds.proofs.statements.labels_beside.Given as goal

abbrev pub invariant-loop-x : goal.invariant-loop-x
invariant-loop-x l =
    l.out.items ++ alike_with (kind_of l.scope.tables.now.names l.all) (flat_map (labels_of (scope_of l.scope) (vars_of l.scope.tables.now.names l.vars)) (drop l.x-index l.arms))
    ≡ l.initial.out.items ++ alike_with (kind_of l.scope.tables.now.names l.initial.all) (flat_map (labels_of (scope_of l.scope) (vars_of l.scope.tables.now.names l.vars)) l.arms)
