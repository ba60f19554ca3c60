use Rattle.std.proofs.Common.{List, sym, ap, ◌∙◌}
use Rattle.law_formulas.specs.Ninths.{first_ninth}
use Rattle.law_translated_texts.specs.Answers.{too_many}
use Rattle.smv_parse_formulas.specs.Trees.{meanings, shown}
use Rattle.smv_parse_formulas.specs.declared.tree.Placed.{Placed}
use Rattle.smv_ltl.proofs.TextLaws.{translated-there, refused-there}
use Rattle.smv_ltl.proofs.of_tree.Goals as goal

pub returns-in-Some-clause-fault : goal.returns-in-Some-clause-fault
returns-in-Some-clause-fault c =
    too_many {ts = c.args.tokens.now} {ft = shown c.args.tree.now} c.requires.within c.requires.tree.0 c.requires.tree.1 (sym (ap (λ (l : List Placed). first_ninth (meanings l)) c.as_slice.ensures) ∙ sym c.first_ninth.ensures ∙ c.in-Some.is)

pub returns-in-None-clause-translated : goal.returns-in-None-clause-translated
returns-in-None-clause-translated c =
    translated-there c.args.text.now c.args.tokens.now (shown c.args.tree.now)
    (record { fits = c.requires.within; read = c.requires.tree.0; spelled = c.requires.tree.1; no_ninth = sym (ap (λ (l : List Placed). first_ninth (meanings l)) c.as_slice.ensures) ∙ sym c.first_ninth.ensures ∙ c.in-None.is }) c.written.result
    c.written.ensures.translated c.written.ensures.fits

pub returns-in-None-clause-fault : goal.returns-in-None-clause-fault
returns-in-None-clause-fault c =
    refused-there c.args.text.now c.args.tokens.now (shown c.args.tree.now)
    (record { fits = c.requires.within; read = c.requires.tree.0; spelled = c.requires.tree.1; no_ninth = sym (ap (λ (l : List Placed). first_ninth (meanings l)) c.as_slice.ensures) ∙ sym c.first_ninth.ensures ∙ c.in-None.is }) c.written.result
    c.written.ensures.fault
