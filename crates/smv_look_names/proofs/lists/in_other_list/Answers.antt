use Rattle.std.proofs.Common.{◌∙◌, ap, sym}
use Rattle.std.specs.Option.{option_map, option_copied}
use Rattle.smv_scope.specs.Held.{constant_of}
use Rattle.smv_scope.proofs.PieceLaws.{constant-found}
use Rattle.smv_look_names.specs.Names.{in_other_list}
use Rattle.smv_look_names.proofs.lists.in_other_list.Goals as goal

pub returns-in-Some : goal.returns-in-Some
returns-in-Some c =
    let t = c.args.tables.now in
    c.if_other.ensures
    ∙ sym (ap (in_other_list c.args.names.now) (constant-found t.text.now t.lists.items t.constants c.requires.constants c.args.word.now.name (option_copied c.find.result) c.find.ensures
    ∙ ap (λ o. option_map (constant_of t.lists.items) (option_copied o)) c.in-Some.is))

pub returns-in-None : goal.returns-in-None
returns-in-None c =
    let t = c.args.tables.now in
    sym (ap (in_other_list c.args.names.now) (constant-found t.text.now t.lists.items t.constants c.requires.constants c.args.word.now.name (option_copied c.find.result) c.find.ensures
    ∙ ap (λ o. option_map (constant_of t.lists.items) (option_copied o)) c.in-None.is))
