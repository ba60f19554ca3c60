-- What the parser of a whole text answers.
use Rattle.std.specs.Prelude.{◌≡◌, ℕ, Bool, true, false, length, Result, Err}
use Rattle.smv_core.specs.declared.tree.Text.{Text}
use Rattle.smv_core.specs.Notation.{Tokens}
use Rattle.law_grammar.specs.Parsing.{Halt, Halts}
use Rattle.smv_parse_expressions.specs.declared.stop.Stop.{Stop}
use Rattle.smv_parse_expressions.specs.declared.stop.Stop.TheVariants.{Unexpected, TooDeep, OutOfMemory}

abbrev pub HaltsText : Bool → ℕ → Result Text Halt → Type 0
HaltsText deep left answer = (bad : Tokens) × (answer ≡ Err (Halts deep bad)) × (length bad ≡ left)

-- the reader of a text halts so, unless memory ran out
abbrev pub StopsText : Stop → Result Text Halt → Type 0
StopsText (Unexpected left) answer = HaltsText false left answer
StopsText (TooDeep left) answer = HaltsText true left answer
StopsText OutOfMemory answer = Unit {0}
