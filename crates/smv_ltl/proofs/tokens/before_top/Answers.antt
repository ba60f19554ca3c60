use Rattle.std.proofs.Common.{ℕ, take_while, nat_lt, ap, ◌∙◌}
use Rattle.smv_core.specs.declared.token.Token.{Token}
use Rattle.smv_ltl.proofs.TokenLaws.{before_first}
use Rattle.smv_ltl.proofs.tokens.before_top.Goals as goal

pub returns-in-len1-up : goal.returns-in-len1-up
returns-in-len1-up c =
    let tokens = c.args.tokens.now in
    c.tokens_before.ensures ∙ ap (λ (n : ℕ). take_while (λ (t : Token). nat_lt t.at n) tokens) c.place_of.ensures ∙ before_first tokens c.args.tops.now c.top-item.result c.in-len1-up.len_at_least c.top-item.is
