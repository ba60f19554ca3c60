use Rattle.std.proofs.Common.{◌≡◌, ◌∙◌, ◌++◌, List, [], ap, subst}
use Rattle.std.specs.Prelude.{OnOk}
use Rattle.smv_core.specs.declared.tree.Word.{Word}
use Rattle.smv_mentions.specs.Said.{words_at}
use Rattle.smv_scope.proofs.DoubledLaws.{words-same}
use Rattle.smv_look_names.specs.Names.{first_before}
use Rattle.smv_look_names.proofs.names.push_tops.Goals as goal

pub returns : goal.returns
returns c =
    let t = c.args.tables.now in
    subst (λ (ws : List Word). OnOk c.push_before.result (c.push_before.new.out.items ≡ c.args.out.now.items ++ first_before c.args.at [] ws))
    (ap words_at c.as_slice.ensures.value ∙ c.in_ok-words.ensures ∙ words-same t.text.now t.pieces.now c.requires.noted) c.push_before.ensures
