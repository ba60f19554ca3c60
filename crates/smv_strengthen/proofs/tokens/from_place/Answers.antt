use Rattle.std.proofs.Common.{◌==◌, drop, ap, ◌∙◌}
use Rattle.smv_core.specs.declared.token.Token.{Token}
use Rattle.smv_strengthen.proofs.TokenLaws.{rest-is, from-first-is}
use Rattle.smv_strengthen.proofs.tokens.from_place.Goals as goal

pub returns : goal.returns
returns c =
    rest-is c.before_place-n.result c.args.tokens.now ∙ ap (λ n. drop n c.args.tokens.now) c.before_place-n.ensures.length ∙ from-first-is (λ (t : Token). t.at == c.args.at) c.args.tokens.now
