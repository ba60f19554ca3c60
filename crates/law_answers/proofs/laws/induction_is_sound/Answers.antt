use Rattle.law_answers.proofs.Inducted.{inducted_sound}
use Rattle.law_answers.proofs.laws.induction_is_sound.Goals as goal

pub returns : goal.returns
returns c command text answer is = inducted_sound c.inducted_is_sound.ensures.inducted command text answer is
