use Rattle.std.proofs.Common.{List, ℕ, ◌++◌, ap, ◌∙◌}
use Rattle.smv_core.specs.Notation.{Tokens}
use Rattle.law_translated_texts.specs.Parts.{Phrase, parts_of, phrase_of}
use Rattle.law_translated_texts.specs.Phrases.{Binders, defined}
use Rattle.law_translated_texts.specs.Translation as law
use Rattle.law_translated_texts.specs.Translation.{spaced}
use Rattle.smv_parse_formulas.specs.Trees.{meant}
use Rattle.smv_phrases.specs.Seen.{shown, binders_of}
use Rattle.smv_phrases.specs.declared.monitors.Binder.{Binder}
use Rattle.smv_ltl.specs.declared.changed.Around.{Around}
use Rattle.smv_ltl.specs.Changes.{around_of, change_of}
use Rattle.smv_ltl.specs.Edits.{binders_at}
use Rattle.smv_ltl.proofs.edits.definitions.Goals as goal

pub returns : goal.returns
returns c =
    let source = c.args.source in
    let text = source.text.now in
    let changed = c.args.changed.now in
    let monitors = changed.watched.monitors.now in
    let phrase = shown c.in_ok-phrase.phrase in
    c.in_ok-defined.ensures ∙ ap (λ (l : List ℕ). l ++ spaced (defined (binders_of text c.as_slice-2.result.now) monitors phrase)) c.new-out.ensures.items
    ∙ ap (λ (bs : List Binder). spaced (defined (binders_of text bs) monitors phrase)) c.as_slice-2.ensures.value
    ∙ ap (λ (bs : Binders). spaced (defined bs monitors phrase)) (c.in_ok-binders.ensures.binders ∙ ap (λ (l : List Around). binders_at source (around_of l)) c.as_slice.ensures.value)
    ∙ ap (λ (g : Phrase (List ℕ)). spaced (defined (law.binders text source.tokens.now (change_of changed)) monitors g))
    (c.in_ok-phrase.ensures ∙ ap (λ (us : Tokens). phrase_of text (parts_of (meant changed.watched.formula.now) us)) c.tokens_at-tokens.ensures.tokens)
