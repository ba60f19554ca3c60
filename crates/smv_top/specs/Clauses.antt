-- What is said of a call without faults of its source and its sink, and of one that shows a run.
use Rattle.std.specs.Prelude.{◌≡◌, ◌⊎◌, ℕ, false, List, Option}
use Rattle.std.specs.Io.KnownBytes.{Appends}
use Rattle.smv_command.specs.declared.commands.Command.{Command}
use Rattle.smv_command.specs.declared.exit.Status.{Status}
use Rattle.smv_command.specs.declared.exit.Status.TheVariants.{OutOfMemory}
use Rattle.smv_answers.specs.Dues.{IsDueTo}
use Rattle.smv_answers.specs.Laws.{IsRealAsAsked, leaves_open}

-- the status to which an answer is due, unless memory ran out, and beside one that leaves it open
abbrev pub Completes : Status → Option Command → List ℕ → Type 0
Completes status command text = (due : Status) (answer : List ℕ) → IsDueTo command text due answer → leaves_open command status ≡ false → leaves_open command due ≡ false → (status ≡ due) ⊎ (status ≡ OutOfMemory)

-- what was written shows a run of the sizes that were given
abbrev pub ShowsReal : Option Command → Option (List ℕ) → Option (List ℕ) → List ℕ → Type 0
ShowsReal command old new text = (answer : List ℕ) × IsRealAsAsked command text answer × Appends old new answer
