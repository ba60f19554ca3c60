-- By the laws of the reader.
use Rattle.smv_parse_formulas.proofs.ByLaws.{is_text, is_only_text, is_numbered, is_unexpected, is_only_unexpected, is_too_deep, is_only_too_deep}
use Rattle.smv_parse_formulas.proofs.parse.parse_formulas.Goals as goal

pub returns-clause-text : goal.returns-clause-text
returns-clause-text c = is_text c.args.length c.args.tokens.now c.answer.result c.answer.ensures.found

pub returns-clause-only_text : goal.returns-clause-only_text
returns-clause-only_text c x h = is_only_text c.args.length c.args.tokens.now c.answer.result c.answer.ensures.found c.answer.ensures.refused x h

pub returns-clause-fault : goal.returns-clause-fault
returns-clause-fault c number at e = is_numbered c.args.length c.args.tokens.now c.answer.result c.answer.ensures.refused number at e

pub returns-clause-unexpected : goal.returns-clause-unexpected
returns-clause-unexpected c at e = is_unexpected c.args.length c.args.tokens.now c.answer.result c.answer.ensures.refused at e

pub returns-clause-only_unexpected : goal.returns-clause-only_unexpected
returns-clause-only_unexpected c at rise x = is_only_unexpected c.args.length c.args.tokens.now c.answer.result c.answer.ensures.found c.answer.ensures.refused at rise x

pub returns-clause-too_deep : goal.returns-clause-too_deep
returns-clause-too_deep c at e = is_too_deep c.args.length c.args.tokens.now c.answer.result c.answer.ensures.refused at e

pub returns-clause-only_too_deep : goal.returns-clause-only_too_deep
returns-clause-only_too_deep c at rise x = is_only_too_deep c.args.length c.args.tokens.now c.answer.result c.answer.ensures.found c.answer.ensures.refused at rise x
