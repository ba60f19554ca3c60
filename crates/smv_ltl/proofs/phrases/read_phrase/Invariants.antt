use Rattle.std.proofs.Common.{◌≡◌, drop}
use Rattle.std.specs.List.{AllByRecursion}
use Rattle.law_translated_texts.specs.Parts.{parts_of, phrase_of}
use Rattle.smv_parse_formulas.specs.Trees.{behind, innermost, meant}
use Rattle.smv_token_ends.specs.Fronts.{IsTokenAt}
use Rattle.smv_phrases.specs.Seen as seen
use Rattle.smv_ltl.proofs.phrases.read_phrase.Given as goal

abbrev pub invariant-loop-step : goal.invariant-loop-step
invariant-loop-step l = record {
  stand : AllByRecursion (IsTokenAt l.text) l.rest;
  read : seen.behind l.fronts.items (phrase_of l.text (parts_of (behind (drop l.step-index l.formula.steps) (innermost l.formula.end)) l.rest)) ≡ phrase_of l.text (parts_of (meant l.formula) l.tokens);
}
