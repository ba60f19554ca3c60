-- By the law of texts.
use Rattle.law_grammar.proofs.Whole.{answered}
use Rattle.law_grammar.proofs.laws.right_answer.Goals as goal

pub returns : goal.returns
returns c n length ts = answered n length ts
