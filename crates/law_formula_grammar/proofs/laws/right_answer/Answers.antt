use Rattle.law_formula_grammar.proofs.Answers.{answered}
use Rattle.law_formula_grammar.proofs.laws.right_answer.Goals as goal

pub returns : goal.returns
returns c = answered
