-- What a call answers that reads a text.
use Rattle.std.specs.Prelude.{◌≡◌, Result, Err}
use Rattle.smv_core.specs.declared.fault.Refusal.{Refusal}
use Rattle.smv_core.specs.declared.fault.Refusal.TheVariants as refusal

-- it is this answer, unless memory ran out
abbrev pub UnlessMemory : {X : Type 0} → Result X Refusal → Result X Refusal → Type 0
UnlessMemory (Err refusal.OutOfMemory) answer = Unit {0}
UnlessMemory result answer = result ≡ answer
