use Rattle.std.proofs.Common.{ap, sym, ◌∙◌}
use Rattle.std.specs.Prelude.{slice_get}
use Rattle.std.specs.Option.{option_copied}
use Rattle.smv_expression_kinds.proofs.OwnLaws.{own-is}
use Rattle.smv_expression_kinds.proofs.paths.own_in.Goals as goal

pub returns-in-Some-Module : goal.returns-in-Some-Module
returns-in-Some-Module c types =
    let top = c.in-Some-Module in
    own-is c.args.tables.now.names.text.now c.args.place types c.args.name.now top.field-0.now top.field-0-0 top.field-0-1 top.field-0-2 top.field-0-3 _
    (ap (λ l. slice_get l c.args.place) (sym c.as_slice.ensures) ∙ sym c.item_at.ensures ∙ ap option_copied top.is) top.field-0-is c.own_name.ensures
