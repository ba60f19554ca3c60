use Rattle.law_valid_texts.specs.Joined.{script_with}
use Rattle.law_reports.specs.Reports.{told_of}
use Rattle.law_valid_texts.proofs.true_reports.true_reports_are_sound.Goals as goal

pub returns : goal.returns
returns c = λ text passes choices each bits nodes images report right all.
    c.true_texts_are_sound.ensures text passes choices each bits nodes images (told_of report.units) (c.reports_tell.ensures.tells (script_with text choices) bits nodes images report right) (c.reports_tell.ensures.true_units report all)
