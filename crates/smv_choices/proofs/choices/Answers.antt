use Rattle.smv_choices.proofs.choices.Goals as goal

pub returns : goal.returns
returns c = rw (← c.in_ok-tables.ensures.same) c.answer.ensures
