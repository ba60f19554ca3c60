use Rattle.law_sound_texts.proofs.WorkedTexts.{has_one_map, holds_in_neither}
use Rattle.law_sound_texts.proofs.AgreeingLayers.{holds_in_both}
use Rattle.law_sound_texts.proofs.sound_texts.worked_texts.Goals as goal

pub returns-clause-units : goal.returns-clause-units
returns-clause-units c = has_one_map

pub returns-clause-differing : goal.returns-clause-differing
returns-clause-differing c = holds_in_neither

pub returns-clause-agreeing : goal.returns-clause-agreeing
returns-clause-agreeing c = holds_in_both
