use Rattle.std.proofs.Common.{◌≡◌, ◌++◌, map, drop}
use Rattle.std.specs.List.{flat_map}
use Rattle.std.specs.Prelude.{None}
use Rattle.law_designs.specs.Kinds.{takes_number, alike_with, kind_with}
use Rattle.law_designs.specs.Operands.{operand}
use Rattle.smv_expression_kinds.specs.Forms.{kind_of}
use Rattle.smv_expression_kinds.specs.Found.{vars_of, scope_of}
use Rattle.smv_operand_kinds.specs.Found.{begin, kinds_left, path_faults, addend, member}
use Rattle.smv_operand_kinds.proofs.operands.+operands.Given as goal

abbrev pub invariant-numbers-loop-x : goal.invariant-numbers-loop-x
invariant-numbers-loop-x l = record {
  faults : l.out.items ++ flat_map takes_number (map (operand (scope_of l.scope) (vars_of l.scope.tables.now.names l.vars)) (drop l.x-index l.parts))
      ≡ l.initial.out.items ++ flat_map takes_number (map (operand (scope_of l.scope) (vars_of l.scope.tables.now.names l.vars)) l.parts);
  at : begin l.first (map (operand (scope_of l.scope) (vars_of l.scope.tables.now.names l.vars)) (drop l.x-index l.parts)) ≡ begin None (map (operand (scope_of l.scope) (vars_of l.scope.tables.now.names l.vars)) l.parts);
}

abbrev pub invariant-summands-loop-x : goal.invariant-summands-loop-x
invariant-summands-loop-x l =
    l.out.items ++ flat_map takes_number (map (addend (scope_of l.scope) (vars_of l.scope.tables.now.names l.vars)) (drop l.x-index l.more))
    ≡ l.initial.out.items ++ flat_map takes_number (map (addend (scope_of l.scope) (vars_of l.scope.tables.now.names l.vars)) l.more)

abbrev pub invariant-all_members-loop-x : goal.invariant-all_members-loop-x
invariant-all_members-loop-x l = record {
  faults : l.out.items ++ alike_with (kind_of l.scope.tables.now.names l.all) (map (member (scope_of l.scope) (vars_of l.scope.tables.now.names l.vars)) (drop l.x-index l.members))
      ≡ l.initial.out.items ++ alike_with (kind_of l.scope.tables.now.names l.initial.all) (map (member (scope_of l.scope) (vars_of l.scope.tables.now.names l.vars)) l.members);
  kind : kind_with (kind_of l.scope.tables.now.names l.all) (map (member (scope_of l.scope) (vars_of l.scope.tables.now.names l.vars)) (drop l.x-index l.members))
      ≡ kind_with (kind_of l.scope.tables.now.names l.initial.all) (map (member (scope_of l.scope) (vars_of l.scope.tables.now.names l.vars)) l.members);
}

abbrev pub invariant-indexes-loop-part : goal.invariant-indexes-loop-part
invariant-indexes-loop-part l =
    l.out.items ++ path_faults (scope_of l.scope) (vars_of l.scope.tables.now.names l.vars) (kinds_left l.scope.tables.now.names l.left) (drop l.part-index l.parts)
    ≡ l.initial.out.items ++ path_faults (scope_of l.scope) (vars_of l.scope.tables.now.names l.vars) (kinds_left l.scope.tables.now.names l.initial.left) l.parts
