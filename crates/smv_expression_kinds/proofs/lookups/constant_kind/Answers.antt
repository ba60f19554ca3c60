use Rattle.std.proofs.Common.{refl, ap, sym, ◌∙◌}
use Rattle.std.specs.Prelude.{slice_get}
use Rattle.std.specs.Option.{option_copied}
use Rattle.smv_expression_kinds.proofs.ScopeLaws.{constant-in, constant-out}
use Rattle.smv_expression_kinds.proofs.lookups.constant_kind.Goals as goal

pub returns-in-None : goal.returns-in-None
returns-in-None c =
    let names = c.args.names.now in
    sym (constant-out names.text.now names.lists.items names.constants c.requires.constants c.args.name.now (sym c.find.ensures ∙ ap option_copied c.in-None.is))

pub returns-in-Some : goal.returns-in-Some
returns-in-Some c =
    let names = c.args.names.now in
    let constant = c.in-Some.constant.now in
    sym (constant-in names.text.now names.lists.items names.constants c.requires.constants c.args.name.now constant (slice_get names.lists.items constant.list) (sym c.find.ensures ∙ ap option_copied c.in-Some.is) refl)
