use Rattle.smv_parse_formula_texts.proofs.Only.{only_text, only_fault}
use Rattle.smv_parse_formula_texts.proofs.parse_formula_text.Goals as goal

pub returns-clause-only_text : goal.returns-clause-only_text
returns-clause-only_text c = only_text c.one_answer.ensures.text c.one_answer.ensures.not_both _ _ c.answer.ensures.text c.answer.ensures.fault

pub returns-clause-only_fault : goal.returns-clause-only_fault
returns-clause-only_fault c = only_fault c.one_answer.ensures.fault c.one_answer.ensures.not_both _ _ c.answer.ensures.text c.answer.ensures.fault
