-- What the rule of texts spells is read again.
use Rattle.std.proofs.Common.{List, [], ap}
use Rattle.smv_core.specs.declared.tree.Top.{Top}
use Rattle.smv_core.specs.declared.tree.Text.{Text}
use Rattle.smv_core.specs.Spelling.{Spells}
use Rattle.smv_print.specs.Canonical.{text_kinds}
use Rattle.law_print_and_parse.proofs.Again.{whole}
use Rattle.law_print_and_parse.proofs.Texts.{text-kept}
use Rattle.law_print_and_parse.proofs.spelling.same_text.Goals as goal

pub returns : goal.returns
unfolding Spells
returns c n length ts us x h e rise =
    let y = (text-kept length n ts x.tops [] h).run us [] rise (whole us (text_kinds x) e) in
    (record { tops = y.0 }, y.1, ap (λ (tops : List Top). let t : Text = record { tops = tops } in t) y.2)
