use Rattle.law_formula_grammar.proofs.Answers.{only-text, only-unexpected, only-too-deep}
use Rattle.law_formula_grammar.proofs.laws.only_answer.Goals as goal

pub returns-clause-text : goal.returns-clause-text
returns-clause-text c = only-text

pub returns-clause-unexpected : goal.returns-clause-unexpected
returns-clause-unexpected c = only-unexpected

pub returns-clause-too_deep : goal.returns-clause-too_deep
returns-clause-too_deep c = only-too-deep
