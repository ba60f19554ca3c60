use Rattle.smv_parse_formula_texts.proofs.Answers.{one-text, one-fault, not-both, either, within}
use Rattle.smv_parse_formula_texts.proofs.one_answer.Goals as goal

pub returns-clause-text : goal.returns-clause-text
returns-clause-text c = one-text

pub returns-clause-fault : goal.returns-clause-fault
returns-clause-fault c = one-fault

pub returns-clause-not_both : goal.returns-clause-not_both
returns-clause-not_both c = not-both

pub returns-clause-either : goal.returns-clause-either
returns-clause-either c = either

pub returns-clause-within : goal.returns-clause-within
returns-clause-within c = within
