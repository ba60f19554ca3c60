use Rattle.law_answers.proofs.Formulas.{formulas_sound}
use Rattle.law_answers.proofs.laws.formulas_are_sound.Goals as goal

pub returns : goal.returns
returns c command text answer is = formulas_sound c.proved_formulas_are_sound.ensures command text answer is
