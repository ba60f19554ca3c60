-- What is answered to a refusal.
use Rattle.std.specs.Prelude.{◌≡◌, ℕ, List}
use Rattle.smv_core.specs.declared.fault.Refusal.{Refusal}
use Rattle.smv_core.specs.declared.fault.Refusal.TheVariants.{Fault, OutOfMemory}
use Rattle.smv_command.specs.declared.exit.Status.{Status}
use Rattle.smv_command.specs.declared.exit.Status.TheVariants.{Refused}
use Rattle.smv_report.specs.Lines.{fault_text}

-- the fault, at its place in the text; nothing where memory ran out
abbrev pub IsRefused : List ℕ → Refusal → Status → List ℕ → Type 0
IsRefused text (Fault fault) status answer = (status ≡ Refused) × (answer ≡ fault_text text fault.number fault.at)
IsRefused text OutOfMemory status answer = ⊥
