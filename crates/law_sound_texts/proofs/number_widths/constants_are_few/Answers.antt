use Rattle.law_sound_texts.proofs.FewConstants.{constants-few}
use Rattle.law_sound_texts.proofs.number_widths.constants_are_few.Goals as goal

pub returns : goal.returns
returns c = λ text none. constants-few text none
