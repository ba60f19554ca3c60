use Rattle.smv_parse.proofs.Only.{only_tree, only_fault}
use Rattle.smv_parse.proofs.parse.Goals as goal

pub returns-clause-only_tree : goal.returns-clause-only_tree
returns-clause-only_tree c = only_tree c.one_answer.ensures.tree c.one_answer.ensures.not_both _ _ c.answer.ensures.tree c.answer.ensures.fault

pub returns-clause-only_fault : goal.returns-clause-only_fault
returns-clause-only_fault c = only_fault c.one_answer.ensures.fault c.one_answer.ensures.not_both _ _ c.answer.ensures.tree c.answer.ensures.fault
