use Rattle.smv_scope.proofs.PieceLaws.{module-found}
use Rattle.smv_mentions.specs.Scopes.{body_if_module, pieces}
use Rattle.std.specs.Option.{option_and_then}
use Rattle.std.specs.List.{slice_get}
use Rattle.std.proofs.Common.{ap, ◌∙◌}
use Rattle.smv_scope.proofs.tables.module_named.Goals as goal

pub returns-in-Some : goal.returns-in-Some
returns-in-Some c =
    let text = c.args.tables.now.text.now in
    module-found text c.args.tables.now.names c.args.name.now c.find.result c.requires.names c.find.ensures
    ∙ ap (λ o. body_if_module (option_and_then (λ i. slice_get (pieces text) i) o)) c.in-Some.is ∙ c.module_at.ensures

pub returns-in-None : goal.returns-in-None
returns-in-None c =
    let text = c.args.tables.now.text.now in
    module-found text c.args.tables.now.names c.args.name.now c.find.result c.requires.names c.find.ensures
    ∙ ap (λ o. body_if_module (option_and_then (λ i. slice_get (pieces text) i) o)) c.in-None.is
