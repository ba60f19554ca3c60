use Rattle.std.proofs.Common.{refl}
use Rattle.smv_command.specs.declared.exit.Status.TheVariants.{Documented, Checked, Resumed}
use Rattle.law_valid_texts.specs.Reports.{IsSoundDesign}
use Rattle.law_answers.specs.Laws.{HoldsSound, RenewsSound}
use Rattle.law_answers.proofs.Documents.{of_read}
use Rattle.law_answers.proofs.laws.documents_are_sound.Goals as goal

pub returns-clause-documented : goal.returns-clause-documented
returns-clause-documented c = of_read IsSoundDesign Documented refl c.due_is_sound.ensures.documented

pub returns-clause-checked : goal.returns-clause-checked
returns-clause-checked c = of_read HoldsSound Checked refl c.due_is_sound.ensures.checked

pub returns-clause-resumed : goal.returns-clause-resumed
returns-clause-resumed c = of_read RenewsSound Resumed refl c.due_is_sound.ensures.resumed
