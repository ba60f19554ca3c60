use Rattle.law_sound_texts.proofs.Limits.{within-limits}
use Rattle.law_sound_texts.proofs.WidthPlaces.{text-places}
use Rattle.law_sound_texts.proofs.number_widths.places_fit.Goals as goal

pub returns : goal.returns
returns c = λ text none. text-places text (within-limits text none).statements
