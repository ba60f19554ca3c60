use Rattle.smv_read_design.proofs.read_plans.plans_of_valid_texts_are_checked.Goals as goal

pub returns-clause-checked : goal.returns-clause-checked
returns-clause-checked c text tree valid plan is =
    c.plans_are_checked.ensures.checked tree (c.valid_texts_are_faultless.ensures text tree valid).0 plan (c.plans_are_of_texts.ensures tree plan is).0

pub returns-clause-sound : goal.returns-clause-sound
returns-clause-sound c text tree valid plan is proved =
    c.proved_plans_are_sound.ensures tree (c.valid_texts_are_faultless.ensures text tree valid).0 plan (c.plans_are_of_texts.ensures tree plan is).0 proved
