use Rattle.std.proofs.Common.{◌≡◌, ◌++◌, OnOk, ap, sym, ◌∙◌, subst, Bor}
use Rattle.std.specs.Prelude.{List}
use Rattle.smv_core.specs.Types.{find_name}
use Rattle.smv_core.specs.declared.fault.Fault.{Fault}
use Rattle.smv_core.specs.declared.tree.Word.{Word}
use Rattle.smv_core.specs.declared.tree.Expr.{Expr}
use Rattle.law_designs.specs.KindFaults.{connected}
use Rattle.smv_expression_kinds.specs.Found.{scope_of}
use Rattle.smv_expression_kinds.specs.declared.tables.Tables.{Tables}
use Rattle.smv_kinds.specs.Found.{argument_faults}
use Rattle.smv_kinds.proofs.ArgumentLaws.{zip-first}
use Rattle.smv_kinds.proofs.arguments.connected.Goals as goal

pub returns-in-len1-up : goal.returns-in-len1-up
returns-in-len1-up c =
    let inner = scope_of c.args.inner.now in
    let says : Word × Expr → List Fault = λ (word, e). connected (scope_of c.args.scope.now) inner.here.types (find_name inner.here.own word.name) e in
    subst (λ (l : List Fault). OnOk c.argument.result (c.argument.new.out.items ≡ c.args.out.now.items ++ l))
    (sym (c.formal_named-formal.ensures (scope_of c.args.scope.now) c.args.x.now ∙ ap (λ (tables : Bor Tables). argument_faults tables.now.names (scope_of c.args.scope.now) c.formal_named-formal.result c.args.x.now) c.requires.same)
    ∙ zip-first says c.args.formals.now c.word-item.result c.args.x.now c.in-len1-up.len_at_least c.word-item.is)
    c.argument.ensures
