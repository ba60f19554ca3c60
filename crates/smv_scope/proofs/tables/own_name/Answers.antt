use Rattle.std.proofs.Common.{◌∙◌, ap}
use Rattle.std.specs.List.{slice_get}
use Rattle.smv_scope.proofs.PieceLaws.{own-found, own-none}
use Rattle.smv_scope.proofs.tables.own_name.Goals as goal

pub returns-in-Some : goal.returns-in-Some
returns-in-Some c =
    own-found c.args.tables.now.text.now c.args.tables.now.own.items c.requires.own c.args.place c.args.name.now c.item_at.result c.in-Some.names c.copied.result (c.item_at.ensures ∙ ap (λ l. slice_get l c.args.place) c.as_slice.ensures.value) c.in-Some.is (c.copied.ensures ∙ c.find.ensures)

pub returns-in-None : goal.returns-in-None
returns-in-None c =
    own-none c.args.tables.now.text.now c.args.tables.now.own.items c.requires.own c.args.place c.args.name.now c.item_at.result (c.item_at.ensures ∙ ap (λ l. slice_get l c.args.place) c.as_slice.ensures.value) c.in-None.is
