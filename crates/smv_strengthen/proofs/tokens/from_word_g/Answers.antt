use Rattle.std.proofs.Common.{drop, ap, ◌∙◌}
use Rattle.smv_core.specs.declared.token.Token.{Token}
use Rattle.smv_core.specs.Signs.{word_G}
use Rattle.smv_core.specs.Notation.{same_kind}
use Rattle.smv_strengthen.proofs.TokenLaws.{rest-is, from-first-is}
use Rattle.smv_strengthen.proofs.tokens.from_word_g.Goals as goal

pub returns : goal.returns
returns c =
    rest-is c.before_word_g-n.result c.args.tokens.now ∙ ap (λ n. drop n c.args.tokens.now) c.before_word_g-n.ensures.length ∙ from-first-is (λ (t : Token). same_kind t.kind word_G) c.args.tokens.now
