-- What the pass over kinds answers.
use Rattle.std.specs.Prelude.{◌≡◌, ℕ, Some, None, Result, Ok, Err}
use Rattle.smv_core.specs.Notation.{Tokens}
use Rattle.smv_core.specs.Spelling.{Spells}
use Rattle.smv_core.specs.declared.fault.Refusal.{Refusal}
use Rattle.smv_core.specs.declared.fault.Refusal.TheVariants as refusal
use Rattle.smv_core.specs.declared.tree.Text.{Text}
use Rattle.smv_core.specs.declared.flat.FlatText.{FlatText}
use Rattle.law_designs.specs.KindFaults.{first_fault_of_kinds}
use Rattle.law_designs.specs.Flattening.{flatten}

-- some tokens spell the text
abbrev pub IsSpelled : Text → Type 0
IsSpelled text = (n : ℕ) × (tokens : Tokens) × Spells n tokens text

-- the flattened text, where the text has no fault of kinds, ranges and sets, or else the first such fault; or memory ran out
abbrev pub IsTyped : Text → Result FlatText Refusal → Type 0
IsTyped text (Ok flat_text) = (first_fault_of_kinds text ≡ None) × (flat_text ≡ flatten text)
IsTyped text (Err (refusal.Fault fault)) = first_fault_of_kinds text ≡ Some fault
IsTyped text (Err refusal.OutOfMemory) = Unit {0}
