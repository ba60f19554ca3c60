-- What the parser of texts with formulas answers.
use Rattle.std.specs.Prelude.{◌≡◌, ℕ, Bool, true, false, length, Result, Ok, Err}
use Rattle.smv_core.specs.declared.fault.Refusal.{Refusal}
use Rattle.smv_core.specs.declared.fault.Refusal.TheVariants.{Fault, OutOfMemory}
use Rattle.smv_core.specs.Notation.{Tokens}
use Rattle.smv_core.specs.Spelling.{place_of_rest}
use Rattle.law_grammar.specs.Parsing.{Halt, Halts}
use Rattle.law_formulas.specs.Formulas.{FormulaText}
use Rattle.smv_parse_expressions.specs.declared.stop.Stop.{Stop}
use Rattle.smv_parse_expressions.specs.declared.stop.Stop.TheVariants as stop
use Rattle.smv_parse_items.specs.Answer.{fault, number_of_halt}
use Rattle.smv_parse_formulas.specs.declared.tree.FormulaTree.{FormulaTree}
use Rattle.smv_parse_formulas.specs.Trees.{shown}

abbrev pub HaltsText : Bool → ℕ → Result FormulaText Halt → Type 0
HaltsText deep left answer = (bad : Tokens) × (answer ≡ Err (Halts deep bad)) × (length bad ≡ left)

-- the reader of a text halts so, unless memory ran out
abbrev pub StopsText : Stop → Result FormulaText Halt → Type 0
StopsText (stop.Unexpected left) answer = HaltsText false left answer
StopsText (stop.TooDeep left) answer = HaltsText true left answer
StopsText stop.OutOfMemory answer = Unit {0}

-- the fault is where the reader halts, unless memory ran out
abbrev pub RefusedAs : ℕ → Refusal → Result FormulaText Halt → Type 0
RefusedAs length (Fault f) answer = (deep : Bool) × (bad : Tokens) × (answer ≡ Err (Halts deep bad)) × (Fault f ≡ fault (number_of_halt deep) (place_of_rest length bad))
RefusedAs length OutOfMemory answer = Unit {0}

abbrev pub IsFault : ℕ → ℕ → Result FormulaTree Refusal → Type 0
IsFault number at result = result ≡ Err (fault number at)

-- it is this answer, unless memory ran out
abbrev pub UnlessMemory : Result FormulaTree Refusal → Result FormulaText Refusal → Type 0
UnlessMemory (Ok x) answer = Ok (shown x) ≡ answer
UnlessMemory (Err (Fault f)) answer = Err (Fault f) ≡ answer
UnlessMemory (Err OutOfMemory) answer = Unit {0}
