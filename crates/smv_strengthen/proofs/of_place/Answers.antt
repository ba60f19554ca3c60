use Rattle.std.proofs.Common.{sym, ap, ◌∙◌, subst}
use Rattle.std.specs.List.{AllByRecursion}
use Rattle.smv_core.specs.Notation.{Tokens}
use Rattle.law_exchanged.specs.Claims.{body_tokens}
use Rattle.smv_token_ends.specs.Fronts.{IsTokenAt}
use Rattle.smv_strengthen.proofs.TokenLaws.{body-stands}
use Rattle.smv_strengthen.proofs.of_place.Goals as goal

pub end_of_all-to-requires : goal.end_of_all-to-requires
end_of_all-to-requires c =
    let text = c.args.text.now in
    let at = c.args.place.now.at in
    let tokens = c.in_ok-tokens.tokens in
    record { tokens = subst (λ (es : Tokens). AllByRecursion (IsTokenAt text) es) (sym (c.body_of-body.ensures ∙ ap (λ (ts : Tokens). body_tokens at ts) c.as_slice-2.ensures)) (body-stands text tokens at c.in_ok-tokens.ensures.tokens) }
