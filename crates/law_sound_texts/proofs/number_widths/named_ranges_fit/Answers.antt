use Rattle.law_sound_texts.proofs.Ranges.{named-fit}
use Rattle.law_sound_texts.proofs.number_widths.named_ranges_fit.Goals as goal

pub returns : goal.returns
returns c = λ text none. named-fit text none
