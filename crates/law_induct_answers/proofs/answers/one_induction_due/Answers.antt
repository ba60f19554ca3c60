use Rattle.law_induct_answers.proofs.One.{one_due}
use Rattle.law_induct_answers.proofs.answers.one_induction_due.Goals as goal

pub returns-clause-status : goal.returns-clause-status
returns-clause-status c proved name var budgets text due other answer another is is_too =
    (one_due c.one_answer.ensures.not_both c.one_answer.ensures.fault c.one_tree.ensures c.one_verdict.ensures c.resumed_proofs_are_checked.ensures.reports c.one_stronger.ensures.one c.one_stronger.ensures.not_both
    proved name var budgets text due other answer another is is_too).statuses

pub returns-clause-answer : goal.returns-clause-answer
returns-clause-answer c proved name var budgets text due other answer another is is_too =
    (one_due c.one_answer.ensures.not_both c.one_answer.ensures.fault c.one_tree.ensures c.one_verdict.ensures c.resumed_proofs_are_checked.ensures.reports c.one_stronger.ensures.one c.one_stronger.ensures.not_both
    proved name var budgets text due other answer another is is_too).answers
