use Rattle.smv_ltl.proofs.AnswerLaws.{only-translation, only-fault}
use Rattle.smv_ltl.proofs.translate.Goals as goal

pub returns-clause-only : goal.returns-clause-only
returns-clause-only c = only-translation c.one_answer.ensures.either c.one_answer.ensures.text c.one_answer.ensures.fault c.one_answer.ensures.not_both c.args.text.now c.answer.result c.answer.ensures.translated c.answer.ensures.fault

pub returns-clause-only_fault : goal.returns-clause-only_fault
returns-clause-only_fault c = only-fault c.one_answer.ensures.either c.one_answer.ensures.text c.one_answer.ensures.fault c.one_answer.ensures.not_both c.args.text.now c.answer.result c.answer.ensures.translated c.answer.ensures.fault
