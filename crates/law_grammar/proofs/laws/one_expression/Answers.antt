-- The parser reads both.
use Rattle.std.proofs.Common.{refl}
use Rattle.law_grammar.specs.Expressions as p
use Rattle.law_grammar.proofs.Expressions.{At, expressions}
use Rattle.law_grammar.proofs.One.{at-most-one}
use Rattle.smv_core.specs.Grammar as g
use Rattle.law_grammar.proofs.laws.one_expression.Goals as goal

pub returns : goal.returns
returns c n m ts x y h k = at-most-one (At g.expr_rule) (λ n. p.read_expr n (p.expr_readers n)) _ (λ n. (expressions n).law tt) (λ a. refl) n m ts x y h k
