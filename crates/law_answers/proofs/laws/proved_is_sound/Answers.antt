use Rattle.law_answers.proofs.Answers.{all_due_to}
use Rattle.law_answers.proofs.laws.proved_is_sound.Goals as goal

pub returns : goal.returns
returns c command text answer due =
    let all = (all_due_to command text answer due).1 in
    c.right_reports_are_sound.ensures text all.bits all.nodes all.steps all.report all.is_right all.all
