use Rattle.smv_strengthen.proofs.AnswerLaws.{only-stronger, only-fault, are-within}
use Rattle.smv_strengthen.proofs.strengthen.Goals as goal

pub returns-clause-only_stronger : goal.returns-clause-only_stronger
returns-clause-only_stronger c =
    only-stronger c.one_answer.ensures.tree c.args.text.now c.args.name.now c.args.var.now c.one_answer.ensures.not_both c.answer.result c.answer.ensures.stronger c.answer.ensures.fault

pub returns-clause-lengths : goal.returns-clause-lengths
returns-clause-lengths c = are-within c.stronger_is_placed.ensures c.args.text.now c.args.name.now c.args.var.now c.answer.result c.answer.ensures.stronger

pub returns-clause-only_fault : goal.returns-clause-only_fault
returns-clause-only_fault c =
    only-fault c.one_answer.ensures.tree c.args.text.now c.args.name.now c.args.var.now c.one_answer.ensures.not_both c.answer.result c.one_answer.ensures.fault c.answer.ensures.stronger c.answer.ensures.fault
