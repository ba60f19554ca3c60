use Rattle.law_sound_texts.proofs.SetNames.{text-apart}
use Rattle.law_sound_texts.proofs.left_sides.set_types_are_apart.Goals as goal

pub returns : goal.returns
returns c = λ text none. text-apart text none
