use Rattle.std.proofs.Common.{List, ℕ, ◌++◌, codes, ap, ◌∙◌}
use Rattle.law_translated_texts.specs.Phrases.{outset, claim_of}
use Rattle.law_translated_texts.specs.Translation.{spaced}
use Rattle.smv_phrases.specs.Seen.{names, shown}
use Rattle.smv_phrases.specs.declared.monitors.Binder.{Binder}
use Rattle.smv_ltl.specs.declared.changed.Around.{Around}
use Rattle.smv_ltl.specs.Changes.{around_of, change_of}
use Rattle.smv_ltl.specs.Edits.{binders_at}
use Rattle.smv_ltl.proofs.EditLaws.{claim-written}
use Rattle.smv_ltl.proofs.edits.claim_bytes.Goals as goal

pub returns-clause-bytes : goal.returns-clause-bytes
returns-clause-bytes c =
    let source = c.args.source in
    let changed = c.args.changed.now in
    let phrase = shown c.in_ok-phrase.phrase in
    claim-written source.text.now source.tokens.now (change_of changed) c.tokens_at-tokens.result.now c.in_ok-binders.binders.items phrase c.end_of_part.result c.end_of_claim-to.result c.in_ok-out.out.items c.claim.new.out.items c.piece.new.out.items c.tokens_at-tokens.ensures.tokens
    (c.in_ok-binders.ensures.binders ∙ ap (λ (l : List Around). binders_at source (around_of l)) c.as_slice.ensures.value) c.in_ok-phrase.ensures c.end_of_part.ensures c.end_of_claim-to.ensures.end (c.in_ok-out.ensures.items ∙ c.between-own.ensures)
    (c.in_ok-claim.ensures ∙ ap (λ (bs : List Binder). c.in_ok-out.out.items ++ spaced (claim_of (names bs) changed.watched.monitors.now outset phrase)) c.as_slice-2.ensures.value) (c.in_ok-piece.ensures ∙ ap (λ (l : List ℕ). c.claim.new.out.items ++ (codes " " ++ l)) c.between.ensures)
