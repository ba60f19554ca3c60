use Rattle.law_ltl_answers.proofs.Sound.{proved-sound}
use Rattle.law_ltl_answers.proofs.answers.proved_formulas_are_sound.Goals as goal

pub returns : goal.returns
returns c = proved-sound c.translations_are_exact.ensures c.translations_are_spelled.ensures c.valid_texts_are_faultless.ensures c.right_reports_are_sound.ensures
