use Rattle.std.proofs.Common.{map, refl, sym, ◌∙◌}
use Rattle.smv_choices.specs.Readings.{reading}
use Rattle.smv_choices.proofs.AnswerLaws.{answered-fault, answered-choices}
use Rattle.smv_choices.proofs.answer_by.Goals as goal

pub returns-in-Some : goal.returns-in-Some
returns-in-Some c =
    let d = c.args.tables.now.design.now in
    answered-fault d d c.args.units.now c.args.leaves.now (map reading c.args.all.now) refl c.requires.units c.requires.leaves c.requires.all
    c.in-Some.fault (sym c.in-Some.is ∙ c.in_ok-fault.ensures)

pub returns : goal.returns
returns c =
    let d = c.args.tables.now.design.now in
    answered-choices d d c.args.units.now c.args.leaves.now (map reading c.args.all.now) refl c.requires.units c.requires.leaves c.requires.all
    c.from_vec.result (sym c.in_default.is ∙ c.in_ok-fault.ensures) (c.from_vec.ensures ∙ c.in_ok-made.ensures)
