use Rattle.law_sound_texts.proofs.left_sides.well_kinded_behaviours_are_kept.Goals as goal

pub returns : goal.returns
returns c = λ text h none layers. c.text_behaviours_are_kept.ensures text h none (c.left_sides_have_no_fewer.ensures text h) layers
