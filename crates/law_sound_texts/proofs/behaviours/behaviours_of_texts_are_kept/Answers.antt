use Rattle.law_sound_texts.proofs.behaviours.behaviours_of_texts_are_kept.Goals as goal
use Rattle.law_flat_kinds.proofs.NoFaults.{none-both}

pub returns : goal.returns
returns c = λ text well none. c.well_kinded_behaviours_are_kept.ensures text well none (c.layers_are_same.ensures text well.3 (none-both _ _ none).1)
