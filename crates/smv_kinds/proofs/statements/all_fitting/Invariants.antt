use Rattle.std.proofs.Common.{◌≡◌, ◌++◌, map, drop}
use Rattle.law_designs.specs.Kinds.{alike_with, kind_with}
use Rattle.law_designs.specs.Operands.{operand}
use Rattle.smv_expression_kinds.specs.Forms.{kind_of}
use Rattle.smv_expression_kinds.specs.Found.{vars_of, scope_of}
use Rattle.smv_kinds.proofs.statements.all_fitting.Given as goal

abbrev pub invariant-loop-x : goal.invariant-loop-x
invariant-loop-x l = record {
  faults : l.out.items ++ alike_with (kind_of l.scope.tables.now.names l.all) (map (operand (scope_of l.scope) (vars_of l.scope.tables.now.names l.vars)) (drop l.x-index l.parts))
      ≡ l.initial.out.items ++ alike_with (kind_of l.scope.tables.now.names l.initial.all) (map (operand (scope_of l.scope) (vars_of l.scope.tables.now.names l.vars)) l.parts);
  kind : kind_with (kind_of l.scope.tables.now.names l.all) (map (operand (scope_of l.scope) (vars_of l.scope.tables.now.names l.vars)) (drop l.x-index l.parts))
      ≡ kind_with (kind_of l.scope.tables.now.names l.initial.all) (map (operand (scope_of l.scope) (vars_of l.scope.tables.now.names l.vars)) l.parts);
}
