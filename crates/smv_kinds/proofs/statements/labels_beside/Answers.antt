use Rattle.std.proofs.Common.{◌++◌, map, ap, ◌∙◌}
use Rattle.std.specs.Prelude.{List}
use Rattle.smv_core.specs.declared.tree.Arm.{Arm}
use Rattle.smv_core.specs.declared.tree.Expr.{Expr}
use Rattle.law_designs.specs.Kinds.{Kind, Operand, alike_with, kind_with}
use Rattle.law_designs.specs.Operands.{operand}
use Rattle.smv_expression_kinds.specs.Forms.{kind_of}
use Rattle.smv_expression_kinds.specs.Found.{vars_of, scope_of}
use Rattle.smv_kinds.specs.Found.{labels_of}
use Rattle.smv_operand_kinds.proofs.KindLaws.{lists-step, lists-done}
use Rattle.smv_kinds.proofs.statements.labels_beside.Goals as goal

pub loop-x-preserved : goal.loop-x-preserved
unfolding labels_of
loop-x-preserved c =
    let here : Arm → List Operand = labels_of (scope_of c.args.scope.now) (vars_of c.args.scope.now.tables.now.names c.args.vars.now) in
    let says : List Expr → List Operand = map (operand (scope_of c.args.scope.now) (vars_of c.args.scope.now.tables.now.names c.args.vars.now)) in
    let all : Kind = kind_of c.args.scope.now.tables.now.names c.loop-x.all in
    lists-step here c.args.arms.now c.loop-x.x-index c.x-item.result all (kind_of c.args.scope.now.tables.now.names c.in_ok-all.all) c.loop-x.out.items c.all_fitting.new.out.items _ c.loop-x-test.true c.x-item.is c.loop-x.invariant
    (c.in_ok-all.ensures.faults ∙ ap (λ l. c.loop-x.out.items ++ alike_with all (says l)) c.as_slice.ensures)
    (c.in_ok-all.ensures.kind ∙ ap (λ l. kind_with all (says l)) c.as_slice.ensures)

pub returns : goal.returns
returns c = lists-done (labels_of (scope_of c.args.scope.now) (vars_of c.args.scope.now.tables.now.names c.args.vars.now)) c.args.arms.now c.loop-x.x-index (kind_of c.args.scope.now.tables.now.names c.loop-x.all) c.loop-x.out.items _ c.loop-x-test.false c.loop-x.invariant
