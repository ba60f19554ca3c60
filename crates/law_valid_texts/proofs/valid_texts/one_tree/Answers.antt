use Rattle.std.proofs.Common.{◌≡◌, ◌∙◌, sym, subst}
use Rattle.smv_core.specs.Notation.{Tokens}
use Rattle.smv_core.specs.Spelling.{Spells}
use Rattle.law_valid_texts.specs.Plans.{levels}
use Rattle.law_valid_texts.proofs.valid_texts.one_tree.Goals as goal

pub returns : goal.returns
returns c text tree other is is_other =
    let both = sym is.spelled.1 ∙ is_other.spelled.1 in
    let same : is_other.spelled.0 ≡ is.spelled.0 = cc in
    c.one_text.ensures levels levels is.spelled.0 tree other is.spelled.2 (subst (λ (ts : Tokens). Spells levels ts other) same is_other.spelled.2)
