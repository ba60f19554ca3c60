use Rattle.law_answers.proofs.OneDue.{one_due}
use Rattle.law_answers.proofs.one.one_answer.Goals as goal

pub returns : goal.returns
returns c = one_due c.one_answer.ensures.tree c.one_answer.ensures.fault c.one_answer.ensures.not_both c.one_tree.ensures c.reports_agree.ensures.either c.reports_agree.ensures.texts c.reports_agree.ensures.units c.one_due.ensures.answer c.one_induction_due.ensures.answer c.one_ltl_due.ensures.answer
