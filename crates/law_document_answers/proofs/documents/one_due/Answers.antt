use Rattle.law_document_answers.proofs.One.{one_due}
use Rattle.law_document_answers.proofs.documents.one_due.Goals as goal

pub returns-clause-status : goal.returns-clause-status
returns-clause-status c command text due other answer another is is_too =
    (one_due c.one_answer.ensures.not_both c.one_answer.ensures.fault c.one_tree.ensures c.one_verdict.ensures c.kept_proofs_are_checked.ensures.one c.resumed_proofs_are_checked.ensures.one
    c.resumed_proofs_are_checked.ensures.true_texts c.resumed_proofs_are_checked.ensures.nothing c.resumed_proofs_are_checked.ensures.reports c.one_judgement.ensures.one c.readings_are_spelled.ensures.one
    command text due other answer another is is_too).statuses

pub returns-clause-answer : goal.returns-clause-answer
returns-clause-answer c command text due other answer another is is_too =
    (one_due c.one_answer.ensures.not_both c.one_answer.ensures.fault c.one_tree.ensures c.one_verdict.ensures c.kept_proofs_are_checked.ensures.one c.resumed_proofs_are_checked.ensures.one
    c.resumed_proofs_are_checked.ensures.true_texts c.resumed_proofs_are_checked.ensures.nothing c.resumed_proofs_are_checked.ensures.reports c.one_judgement.ensures.one c.readings_are_spelled.ensures.one
    command text due other answer another is is_too).answers
