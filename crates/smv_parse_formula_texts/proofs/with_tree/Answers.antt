use Rattle.smv_parse_formula_texts.proofs.Only.{of_tree, of_tokens}
use Rattle.smv_parse_formula_texts.proofs.with_tree.Goals as goal

pub returns-in-Ok-clause-text : goal.returns-in-Ok-clause-text
returns-in-Ok-clause-text c = of_tree _ _ _ _ _ c.as_slice.ensures c.requires.tokens c.in-Ok.is c.parse_formulas.ensures.text

pub returns-in-Err-clause-fault : goal.returns-in-Err-clause-fault
returns-in-Err-clause-fault c = of_tokens _ _ _ _ _ c.as_slice.ensures c.requires.tokens c.in-Err.is c.parse_formulas.ensures.fault c.parse_formulas.ensures.unexpected c.parse_formulas.ensures.too_deep
