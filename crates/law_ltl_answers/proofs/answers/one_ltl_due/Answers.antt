use Rattle.law_ltl_answers.proofs.One.{one_due}
use Rattle.law_ltl_answers.proofs.answers.one_ltl_due.Goals as goal

pub returns-clause-status : goal.returns-clause-status
returns-clause-status c proved bits budgets text due other answer another is is_too =
    (one_due c.one_answer.ensures.not_both c.one_answer.ensures.fault c.one_tree.ensures c.reports_agree.ensures.texts c.translations_are_one.ensures c.one_refusal.ensures.not_both c.one_refusal.ensures.one
    proved bits budgets text due other answer another is is_too).statuses

pub returns-clause-answer : goal.returns-clause-answer
returns-clause-answer c proved bits budgets text due other answer another is is_too =
    (one_due c.one_answer.ensures.not_both c.one_answer.ensures.fault c.one_tree.ensures c.reports_agree.ensures.texts c.translations_are_one.ensures c.one_refusal.ensures.not_both c.one_refusal.ensures.one
    proved bits budgets text due other answer another is is_too).answers
