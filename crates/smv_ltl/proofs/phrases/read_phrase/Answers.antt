use Rattle.std.proofs.Common.{List, ℕ, length, drop, get_or, ◌+◌, ap, ◌∙◌, arith}
use Rattle.law_translated_texts.specs.Parts.{Phrase, parts_of, phrase_of}
use Rattle.smv_parse_formulas.specs.Trees.{meant, innermost}
use Rattle.smv_parse_formulas.specs.Trees as trees
use Rattle.smv_parse_formulas.specs.declared.tree.Step.{Step}
use Rattle.smv_phrases.specs.Seen as seen
use Rattle.smv_phrases.specs.declared.phrases.Front.{Front}
use Rattle.smv_ltl.proofs.PhraseLaws.{read-more, read-all}
use Rattle.smv_ltl.proofs.phrases.read_phrase.Goals as goal

pub loop-step-preserved : goal.loop-step-preserved
loop-step-preserved c =
    let text = c.args.text.now in
    let formula = c.args.formula.now in
    let i = c.loop-step.step-index in
    let more = c.front_of.result.1.now in
    let same = ap (λ (l : List Step). length l) c.as_slice-step-items.ensures in
    record {
      stand = c.front_of.ensures.stand;
      read = ap (λ (fs : List Front). seen.behind fs (phrase_of text (parts_of (trees.behind (drop (i + 1) formula.steps) (innermost formula.end)) more))) c.in_ok-push.ensures.items
          ∙ read-more text c.loop-step.fronts.items formula.steps i (innermost formula.end) c.loop-step.rest.now (phrase_of text (parts_of (meant formula) c.args.tokens.now)) c.loop-step.invariant.read c.front_of.result.0 c.step-item.result more (omega (arith, same))
          (c.step-item.is ∙ ap (λ (l : List Step). get_or l i c.step-item.result) c.as_slice-step-items.ensures) c.front_of.ensures.read;
    }

pub returns : goal.returns
returns c =
    let text = c.args.text.now in
    let formula = c.args.formula.now in
    let same = ap (λ (l : List Step). length l) c.as_slice-step-items.ensures in
    ap (λ (g : Phrase (List ℕ)). seen.behind c.loop-step.fronts.items g) c.last_of-last.ensures
    ∙ read-all text c.loop-step.fronts.items formula.steps c.loop-step.step-index (innermost formula.end) c.loop-step.rest.now (phrase_of text (parts_of (meant formula) c.args.tokens.now)) c.loop-step.invariant.read (omega (arith, same))
