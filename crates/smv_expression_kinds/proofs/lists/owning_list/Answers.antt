use Rattle.std.proofs.Common.{ap, sym, ◌∙◌}
use Rattle.std.specs.Prelude.{option_map}
use Rattle.std.specs.Option.{option_copied}
use Rattle.smv_mentions.specs.Scopes.{Constant, pieces, constants}
use Rattle.smv_scope.specs.Held.{constant_of}
use Rattle.smv_scope.proofs.PieceLaws.{constant-found}
use Rattle.smv_expression_kinds.proofs.ListLaws.{owner-none, owner-first}
use Rattle.smv_expression_kinds.proofs.lists.owning_list.Goals as goal

pub returns-in-None : goal.returns-in-None
returns-in-None c = sym (owner-none (constants (pieces c.args.names.now.text.now)) c.args.words.now (sym c.item_at.ensures ∙ ap option_copied c.in-None.is))

pub returns-in-None-find : goal.returns-in-None-find
returns-in-None-find c =
    let t = c.args.names.now in
    let all = constants (pieces t.text.now) in
    sym (owner-first all c.args.words.now c.in-Some.word.now (sym c.item_at.ensures ∙ ap option_copied c.in-Some.is)
    ∙ ap (option_map (λ (constant : Constant). constant.names)) (constant-found t.text.now t.lists.items t.constants c.requires.constants c.in-Some.word.now.name (option_copied c.find.result) c.find.ensures
    ∙ ap (λ o. option_map (constant_of t.lists.items) (option_copied o)) c.in-None-find.is))

pub returns-in-Some-find : goal.returns-in-Some-find
returns-in-Some-find c =
    let t = c.args.names.now in
    let all = constants (pieces t.text.now) in
    sym (owner-first all c.args.words.now c.in-Some.word.now (sym c.item_at.ensures ∙ ap option_copied c.in-Some.is)
    ∙ ap (option_map (λ (constant : Constant). constant.names)) (constant-found t.text.now t.lists.items t.constants c.requires.constants c.in-Some.word.now.name (option_copied c.find.result) c.find.ensures
    ∙ ap (λ o. option_map (constant_of t.lists.items) (option_copied o)) c.in-Some-find.is))
