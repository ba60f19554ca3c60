use Rattle.law_sound_texts.proofs.Filled.{kept}
use Rattle.law_sound_texts.proofs.WholeDefs.{definitions-whole}
use Rattle.law_sound_texts.proofs.checked_scripts.definitions_read_whole_elements.Goals as goal

pub returns : goal.returns
returns c = λ flat_text h. definitions-whole flat_text (kept flat_text h).1
