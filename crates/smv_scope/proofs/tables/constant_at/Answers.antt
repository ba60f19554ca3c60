use Rattle.std.proofs.Common.{◌∙◌, ap, sym}
use Rattle.std.specs.Option.{option_map, option_copied}
use Rattle.smv_mentions.specs.Scopes.{Constant}
use Rattle.smv_scope.specs.Held.{constant_of}
use Rattle.smv_scope.proofs.PieceLaws.{constant-found}
use Rattle.smv_scope.proofs.tables.constant_at.Goals as goal

pub returns-in-Some : goal.returns-in-Some
returns-in-Some c =
    let t = c.args.tables.now in
    sym (ap (option_map (λ (constant : Constant). constant.at)) (constant-found t.text.now t.lists.items t.constants c.requires.constants c.args.name.now (option_copied c.find.result) c.find.ensures
    ∙ ap (λ o. option_map (constant_of t.lists.items) (option_copied o)) c.in-Some.is))

pub returns-in-None : goal.returns-in-None
returns-in-None c =
    let t = c.args.tables.now in
    sym (ap (option_map (λ (constant : Constant). constant.at)) (constant-found t.text.now t.lists.items t.constants c.requires.constants c.args.name.now (option_copied c.find.result) c.find.ensures
    ∙ ap (λ o. option_map (constant_of t.lists.items) (option_copied o)) c.in-None.is))
