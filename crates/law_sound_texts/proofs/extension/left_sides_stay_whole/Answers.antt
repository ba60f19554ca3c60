use Rattle.law_sound_texts.proofs.LeftSides.{whole_design}
use Rattle.law_sound_texts.proofs.extension.left_sides_stay_whole.Goals as goal

pub returns : goal.returns
returns c = λ flat_text whole. whole_design flat_text whole
