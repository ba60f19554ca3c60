use Rattle.law_designs.specs.Flattening.{flatten}
use Rattle.law_designs.specs.Definitions.{design_of_flat_text}
use Rattle.law_sound_texts.proofs.SoundTexts.{script_units}
use Rattle.law_sound_texts.proofs.sound_texts.sound_scripts_are_sound_texts.Goals as goal

pub returns : goal.returns
returns c = λ text well none s same sound. c.sound_designs_are_sound_texts.ensures text well none (script_units (design_of_flat_text (flatten text)) s same sound)
