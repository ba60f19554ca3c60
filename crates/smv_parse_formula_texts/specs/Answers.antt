-- What a call answers that reads a text with formulas.
use Rattle.std.specs.Prelude.{◌≡◌, Result, Ok, Err}
use Rattle.smv_core.specs.declared.fault.Refusal.{Refusal}
use Rattle.smv_core.specs.declared.fault.Refusal.TheVariants.{Fault, OutOfMemory}
use Rattle.smv_core.specs.Notation.{Tokens}
use Rattle.law_formulas.specs.Formulas.{FormulaText}
use Rattle.smv_parse_formulas.specs.Trees.{shown}
use Rattle.smv_parse_formula_texts.specs.declared.ReadText.{ReadText}

-- it is this answer, unless memory ran out
abbrev pub UnlessMemory : Result ReadText Refusal → Result (Tokens × FormulaText) Refusal → Type 0
UnlessMemory (Ok x) answer = Ok (x.tokens, shown x.tree) ≡ answer
UnlessMemory (Err (Fault f)) answer = Err (Fault f) ≡ answer
UnlessMemory (Err OutOfMemory) answer = Unit {0}
