-- The plan of a text, and its faults.
use Rattle.std.specs.Prelude.{◌≡◌, ℕ, List, true}
use Rattle.smv_core.specs.declared.fault.Fault.{Fault}
use Rattle.smv_core.specs.declared.tree.Text.{Text}
use Rattle.smv_problem.specs.declared.report.Plan.{Plan}
use Rattle.smv_front.specs.Plans.{IsPlan}
use Rattle.smv_command.specs.declared.commands.Command.{Command}
use Rattle.law_valid_texts.specs.Joined.{flat_design}
use Rattle.law_valid_texts.specs.Reports.{IsValid}
use Rattle.law_answers.specs.Dues.{IsFault, decides}

-- the text is valid, and this is the plan of its design
abbrev pub HasPlan : List ℕ → Plan → Type 0
HasPlan text plan = (tree : Text) × IsValid text tree × IsPlan (flat_design tree) plan

-- the first fault of the text under each command that decides units
abbrev pub IsFaultOf : List ℕ → Fault → Type 0
IsFaultOf text fault = (command : Command) → decides command ≡ true → IsFault command text fault.number fault.at
