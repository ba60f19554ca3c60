use Rattle.std.proofs.Common.{◌∙◌, Some, None, sym}
use Rattle.law_answers.specs.Dues.{text_for}
use Rattle.law_answers.specs.Laws.{OneStatus}
use Rattle.law_answers.proofs.Answers.{one_due}
use Rattle.law_answers.proofs.laws.one_status.Goals as goal

pub returns : goal.returns
returns c = one
  where
    one : OneStatus
    one None text due other answer another is is_other p q = is.0 ∙ sym is_other.0
    one (Some command) text due other answer another is is_other p q =
        one_due c.one_answer.ensures.not_both c.one_answer.ensures.fault c.one_tree.ensures c.reports_agree.ensures.either c.reports_agree.ensures.texts c.reports_agree.ensures.units c.one_due.ensures.status c.one_induction_due.ensures.status c.one_ltl_due.ensures.status command (text_for command text) due other answer another is is_other p q
