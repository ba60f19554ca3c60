use Rattle.law_sound_texts.proofs.WholeText.{text-fits}
use Rattle.law_sound_texts.proofs.number_widths.numbers_fit.Goals as goal

pub returns : goal.returns
returns c = λ n tokens text spelled le none sets kinds.
    text-fits n tokens text spelled le none sets kinds (c.families_are_few.ensures text none) (c.constants_are_few.ensures text none) (c.entries_are_few.ensures text none) (c.places_fit.ensures text none)
