use Rattle.law_sound_texts.proofs.FlatLeftSides.{flat_text-whole}
use Rattle.law_sound_texts.proofs.whole.left_sides_are_whole_where_kinds_fit.Goals as goal

pub returns : goal.returns
returns c = λ flat_text kinded. flat_text-whole flat_text kinded
