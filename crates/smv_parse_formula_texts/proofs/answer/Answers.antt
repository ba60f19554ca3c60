use Rattle.smv_parse_formula_texts.proofs.Only.{of_lexer}
use Rattle.smv_parse_formula_texts.proofs.answer.Goals as goal

pub returns-in-Err-clause-fault : goal.returns-in-Err-clause-fault
returns-in-Err-clause-fault c = of_lexer _ _ _ c.in-Err.is c.tokens.ensures.fault
