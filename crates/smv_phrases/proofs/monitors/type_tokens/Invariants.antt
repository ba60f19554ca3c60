use Rattle.std.proofs.Common.{◌≡◌, ◌++◌, drop, not, take_while}
use Rattle.std.specs.List.{AllByRecursion}
use Rattle.smv_core.specs.declared.token.Token.{Token}
use Rattle.smv_core.specs.Signs.{close_paren}
use Rattle.smv_core.specs.Notation.{same_kind}
use Rattle.law_translated_texts.specs.Parts.{spelled}
use Rattle.law_translated_texts.specs.Translation.{spaced}
use Rattle.smv_token_ends.specs.Fronts.{IsTokenAt}
use Rattle.smv_phrases.proofs.monitors.type_tokens.Given as goal

abbrev pub invariant-loop-one : goal.invariant-loop-one
invariant-loop-one l = record {
  stand : AllByRecursion (IsTokenAt l.text) (drop l.one-index l.types);
  told : l.out.items ++ spaced (spelled l.text (take_while (λ (t : Token). not (same_kind t.kind close_paren)) (drop l.one-index l.types))) ≡ l.initial.out.items ++ spaced (spelled l.text (take_while (λ (t : Token). not (same_kind t.kind close_paren)) l.types));
}
