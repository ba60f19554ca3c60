-- What the pass over uses answers.
use Rattle.std.specs.Prelude.{◌≡◌, List, Some, None, Result, Ok, Err}
use Rattle.smv_core.specs.declared.fault.Refusal.{Refusal}
use Rattle.smv_core.specs.declared.fault.Refusal.TheVariants as refusal
use Rattle.smv_core.specs.declared.flat.Design.{Design}
use Rattle.smv_core.specs.declared.flat.Choice.{Choice}
use Rattle.law_uses.specs.Choices.{choices_of}
use Rattle.law_uses.specs.UseFaults.{first_fault_of_uses}

-- the choice of each leaf, where the design has no fault of uses, or else the first such fault; or memory ran out
abbrev pub AreChosen : Design → Result (List Choice) Refusal → Type 0
AreChosen d (Ok choices) = (first_fault_of_uses d ≡ None) × (choices ≡ choices_of d)
AreChosen d (Err (refusal.Fault fault)) = first_fault_of_uses d ≡ Some fault
AreChosen d (Err refusal.OutOfMemory) = Unit {0}
