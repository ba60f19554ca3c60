use Rattle.std.proofs.Common.{◌∙◌, ap, sym, not}
use Rattle.std.specs.Option.{option_map, option_copied}
use Rattle.smv_mentions.specs.NameFaults.{is_of_other_list}
use Rattle.smv_scope.specs.Held.{constant_of}
use Rattle.smv_scope.proofs.PieceLaws.{constant-found}
use Rattle.smv_scope.proofs.constants.is_of_other.Goals as goal

pub returns-in-Some-clause-other : goal.returns-in-Some-clause-other
returns-in-Some-clause-other c =
    let t = c.args.tables.now in
    ap not c.compare-now.ensures.same
    ∙ sym (ap (is_of_other_list c.args.names.now) (constant-found t.text.now t.lists.items t.constants c.requires.tables.constants c.args.word.now.name (option_copied c.find.result) c.find.ensures
    ∙ ap (λ o. option_map (constant_of t.lists.items) (option_copied o)) c.in-Some.is))

pub returns-in-None-clause-other : goal.returns-in-None-clause-other
returns-in-None-clause-other c =
    let t = c.args.tables.now in
    sym (ap (is_of_other_list c.args.names.now) (constant-found t.text.now t.lists.items t.constants c.requires.tables.constants c.args.word.now.name (option_copied c.find.result) c.find.ensures
    ∙ ap (λ o. option_map (constant_of t.lists.items) (option_copied o)) c.in-None.is))
