use Rattle.smv_read_design.proofs.read_plans.plans_of_valid_texts_are_whole.Goals as goal

pub returns : goal.returns
returns c text tree valid plan is =
    let faultless = c.valid_texts_are_faultless.ensures text tree valid in
    let planned = c.plans_are_of_texts.ensures tree plan is in
    c.plans_are_whole.ensures tree faultless.0 faultless.1 plan planned.0 planned.1
