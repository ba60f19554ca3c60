use Rattle.law_formula_grammar.proofs.Answers.{one-text}
use Rattle.law_formula_grammar.proofs.laws.one_text.Goals as goal

pub returns : goal.returns
returns c = one-text
