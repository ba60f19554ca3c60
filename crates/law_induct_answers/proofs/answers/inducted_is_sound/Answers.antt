use Rattle.law_induct_answers.proofs.Sound.{strengthened-sound, inducted-sound}
use Rattle.law_induct_answers.proofs.answers.inducted_is_sound.Goals as goal

pub returns-clause-strengthened : goal.returns-clause-strengthened
returns-clause-strengthened c text name var s tree other valid is valid_too sound = strengthened-sound c.induction_is_sound.ensures c.one_answer.ensures.tree c.valid_texts_are_faultless.ensures text name var s tree other valid is valid_too sound

pub returns-clause-inducted : goal.returns-clause-inducted
returns-clause-inducted c proved name var budgets text answer f u r is = inducted-sound c.induction_is_sound.ensures c.one_answer.ensures.tree c.valid_texts_are_faultless.ensures c.right_reports_are_sound.ensures proved name var budgets text answer f u r is
