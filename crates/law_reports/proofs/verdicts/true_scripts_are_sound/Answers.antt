use Rattle.law_obligations.proofs.Sound.{proved_is_sound}
use Rattle.law_reports.proofs.Decided.{true_is_proved}
use Rattle.law_reports.proofs.verdicts.true_scripts_are_sound.Goals as goal

pub returns-clause-proved : goal.returns-clause-proved
returns-clause-proved c s checked have bits nodes images verdicts are all = true_is_proved s checked have bits nodes images verdicts are all

pub returns-clause-sound : goal.returns-clause-sound
returns-clause-sound c s checked have bits nodes images verdicts are all = proved_is_sound s checked (true_is_proved s checked have bits nodes images verdicts are all)
