use Rattle.std.proofs.Common.{ap, sym, ◌∙◌}
use Rattle.std.specs.Prelude.{option_map}
use Rattle.std.specs.Option.{option_copied}
use Rattle.smv_core.specs.Types.{find_name}
use Rattle.smv_scope.specs.Held.{own_of}
use Rattle.smv_expression_kinds.specs.Forms.{types_before}
use Rattle.smv_expression_kinds.proofs.ScopeLaws.{inside-no-module, inside-no-name, inside-name}
use Rattle.smv_expression_kinds.proofs.paths.inside.Goals as goal

pub returns-in-None : goal.returns-in-None
returns-in-None c types word parts same =
    let text = c.args.tables.now.names.text.now in
    inside-no-module text word c.in-Field.name c.args.named.now c.args.part.now parts types c.in-Field.is same
    (ap (λ l. find_name l c.args.named.now) (sym c.requires.modules) ∙ sym c.find.ensures ∙ ap option_copied c.in-None.is)

pub returns-in-None-own_in : goal.returns-in-None-own_in
returns-in-None-own_in c types word parts same =
    let text = c.args.tables.now.names.text.now in
    let h = c.find.ensures in
    let h2 = c.in-Some.is in
    let h3 = c.in-Some.place-is in
    inside-no-name text word c.in-Field.name c.args.named.now c.args.part.now parts types c.in-Some.place.now c.in-Field.is same
    (ap (λ l. find_name l c.args.named.now) (sym c.requires.modules) ∙ sym c.find.ensures ∙ ap option_copied c.in-Some.is)
    (c.own_in.ensures (types_before text c.in-Some.place.now) ∙ ap (option_map own_of) c.in-None-own_in.is)

pub returns-in-Some-own_in : goal.returns-in-Some-own_in
returns-in-Some-own_in c types word parts same =
    let text = c.args.tables.now.names.text.now in
    inside-name text word c.in-Field.name c.args.named.now c.args.part.now parts types c.in-Some.place.now (own_of c.in-Some-own_in.own) c.in-Field.is same
    (ap (λ l. find_name l c.args.named.now) (sym c.requires.modules) ∙ sym c.find.ensures ∙ ap option_copied c.in-Some.is)
    (c.own_in.ensures (types_before text c.in-Some.place.now) ∙ ap (option_map own_of) c.in-Some-own_in.is)
