use Rattle.std.proofs.Common.{List, ℕ, ◌++◌, ap, ◌∙◌}
use Rattle.law_translated_texts.specs.Phrases.{Binders, declared}
use Rattle.law_translated_texts.specs.Translation.{spaced}
use Rattle.smv_phrases.specs.Seen.{binders_of}
use Rattle.smv_phrases.specs.declared.monitors.Binder.{Binder}
use Rattle.smv_ltl.specs.declared.changed.Around.{Around}
use Rattle.smv_ltl.specs.Changes.{around_of}
use Rattle.smv_ltl.specs.Edits.{binders_at}
use Rattle.smv_ltl.proofs.edits.declarations.Goals as goal

pub returns : goal.returns
returns c =
    let source = c.args.source in
    let text = source.text.now in
    let monitors = c.args.changed.now.watched.monitors.now in
    c.in_ok-declared.ensures ∙ ap (λ (l : List ℕ). l ++ spaced (declared (binders_of text c.as_slice-2.result.now) monitors)) c.new-out.ensures.items
    ∙ ap (λ (bs : List Binder). spaced (declared (binders_of text bs) monitors)) c.as_slice-2.ensures.value
    ∙ ap (λ (bs : Binders). spaced (declared bs monitors)) (c.in_ok-binders.ensures.binders ∙ ap (λ (l : List Around). binders_at source (around_of l)) c.as_slice.ensures.value)
