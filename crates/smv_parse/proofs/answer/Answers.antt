use Rattle.smv_parse.proofs.Only.{of_lexer, of_tokens}
use Rattle.smv_parse.proofs.answer.Goals as goal

pub returns-in-Ok-clause-fault : goal.returns-in-Ok-clause-fault
returns-in-Ok-clause-fault c = of_tokens _ _ _ _ c.as_slice.ensures c.in-Ok.ensures.tokens c.parse_tokens.ensures.fault c.parse_tokens.ensures.unexpected c.parse_tokens.ensures.too_deep

pub returns-in-Err-clause-fault : goal.returns-in-Err-clause-fault
returns-in-Err-clause-fault c = of_lexer _ _ _ c.in-Err.is c.tokens.ensures.fault
