use Rattle.std.proofs.Common.{[], ◌∷◌, List, sym, ap, subst, ◌∙◌}
use Rattle.std.specs.Prelude.{OnOk}
use Rattle.smv_core.specs.Values.{Name}
use Rattle.smv_mentions.specs.Said.{said}
use Rattle.smv_size.specs.Constants.{Counts, constants_said}
use Rattle.smv_size.proofs.ConstantLaws.{said-listed}
use Rattle.smv_size.proofs.constants.in_mention.Goals as goal

pub returns-in-ListsConstants-clause-names : goal.returns-in-ListsConstants-clause-names
returns-in-ListsConstants-clause-names c =
    subst (λ (l : List Name). OnOk c.in_words.result (Counts l c.args.names.now c.in_words.new.names)) (sym (said-listed c.in-ListsConstants.words.now) ∙ ap (λ m. constants_said (said m ∷ [])) (sym c.in-ListsConstants.is)) c.in_words.ensures.names
