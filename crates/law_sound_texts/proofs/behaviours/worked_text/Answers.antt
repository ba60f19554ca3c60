use Rattle.law_sound_texts.proofs.WorkedText.{takes_the_first, runs_are_of_the_first}
use Rattle.law_sound_texts.proofs.behaviours.worked_text.Goals as goal

pub returns-clause-base_definitions : goal.returns-clause-base_definitions
returns-clause-base_definitions c = takes_the_first

pub returns-clause-runs : goal.returns-clause-runs
returns-clause-runs c = runs_are_of_the_first
