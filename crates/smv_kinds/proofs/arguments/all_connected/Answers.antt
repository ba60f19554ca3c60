use Rattle.std.specs.Prelude.{List}
use Rattle.smv_core.specs.Types.{find_name}
use Rattle.smv_core.specs.declared.fault.Fault.{Fault}
use Rattle.smv_core.specs.declared.tree.Word.{Word}
use Rattle.smv_core.specs.declared.tree.Expr.{Expr}
use Rattle.law_designs.specs.KindFaults.{connected}
use Rattle.smv_expression_kinds.specs.Found.{scope_of}
use Rattle.smv_kinds.proofs.ArgumentLaws.{args-step, args-done}
use Rattle.smv_kinds.proofs.arguments.all_connected.Goals as goal

pub loop-x-preserved : goal.loop-x-preserved
loop-x-preserved c =
    let inner = scope_of c.args.inner.now in
    let says : Word × Expr → List Fault = λ (word, e). connected (scope_of c.args.scope.now) inner.here.types (find_name inner.here.own word.name) e in
    args-step says c.args.args.now c.loop-x.x-index c.x-item.result c.loop-x.left.now c.behind_first-left.result.now c.loop-x.out.items c.connected.new.out.items _ c.loop-x-test.true c.x-item.is c.loop-x.invariant
    c.in_ok-connected.ensures c.behind_first-left.ensures

pub returns : goal.returns
returns c =
    let inner = scope_of c.args.inner.now in
    let says : Word × Expr → List Fault = λ (word, e). connected (scope_of c.args.scope.now) inner.here.types (find_name inner.here.own word.name) e in
    args-done says c.args.args.now c.loop-x.x-index c.loop-x.left.now c.loop-x.out.items _ c.loop-x-test.false c.loop-x.invariant
