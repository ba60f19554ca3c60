use Rattle.law_sound_texts.proofs.Filled.{families-filled}
use Rattle.law_sound_texts.proofs.checked_scripts.families_are_filled.Goals as goal

pub returns : goal.returns
returns c = λ flat_text h. families-filled flat_text h
