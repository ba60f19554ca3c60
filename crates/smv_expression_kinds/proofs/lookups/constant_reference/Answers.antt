use Rattle.std.proofs.Common.{[], map, ap, sym, ◌∙◌, Bor}
use Rattle.std.specs.Prelude.{Some, option_map}
use Rattle.smv_core.specs.declared.tree.Word.{Word}
use Rattle.smv_expression_kinds.specs.Forms.{kind_of}
use Rattle.smv_expression_kinds.specs.Found.{whole_in}
use Rattle.smv_expression_kinds.proofs.ScopeLaws.{constant-alone}
use Rattle.smv_expression_kinds.proofs.lookups.constant_reference.Goals as goal

pub returns-in-None-constant_kind : goal.returns-in-None-constant_kind
returns-in-None-constant_kind c =
    sym (constant-alone c.args.scope.now c.args.parts.now c.in-Some.word.now c.constant_kind.result
    (sym c.lone_name.ensures ∙ ap (option_map (λ (word : Bor Word). word.now)) c.in-Some.is) c.constant_kind.ensures
    ∙ ap (option_map (λ kind. whole_in [] (kind_of c.args.scope.now.tables.now.names kind))) c.in-None-constant_kind.is)

pub returns-in-Some-constant_kind : goal.returns-in-Some-constant_kind
returns-in-Some-constant_kind c =
    ap Some (c.single.ensures c.args.scope.now.tables.now.names ∙ ap (λ l. whole_in (map (kind_of c.args.scope.now.tables.now.names) l) (kind_of c.args.scope.now.tables.now.names c.in-Some-constant_kind.kind)) c.new.ensures.items)
    ∙ sym (constant-alone c.args.scope.now c.args.parts.now c.in-Some.word.now c.constant_kind.result
    (sym c.lone_name.ensures ∙ ap (option_map (λ (word : Bor Word). word.now)) c.in-Some.is) c.constant_kind.ensures
    ∙ ap (option_map (λ kind. whole_in [] (kind_of c.args.scope.now.tables.now.names kind))) c.in-Some-constant_kind.is)
