-- What a call answers that reads a text: its fault, unless memory ran out.
use Rattle.std.specs.Prelude.{Result, Ok, Err}
use Rattle.smv_core.specs.declared.fault.Fault.{Fault}
use Rattle.smv_core.specs.declared.fault.Refusal.{Refusal}
use Rattle.smv_core.specs.declared.fault.Refusal.TheVariants as refusal

-- the answer is no fault, or a fault of which this holds
abbrev pub IfFault : {X : Type 0} → Result X Refusal → (Fault → Type 0) → Type 0
IfFault (Ok x) P = Unit {0}
IfFault (Err (refusal.Fault fault)) P = P fault
IfFault (Err refusal.OutOfMemory) P = Unit {0}
