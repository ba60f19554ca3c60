use Rattle.law_sound_texts.proofs.Flattened.{text_placed}
use Rattle.law_sound_texts.proofs.conflicts.flattened_texts_are_placed.Goals as goal

pub returns : goal.returns
returns c = λ text whole. text_placed text whole
