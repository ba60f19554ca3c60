-- What a parser in code answers: what the reader reads, or the number of tokens that are left where it halts.
use Rattle.std.specs.Prelude.{◌≡◌, ℕ, Bool, true, false, length, Err}
use Rattle.smv_core.specs.Notation.{Tokens}
use Rattle.law_grammar.specs.Parsing.{Halts, Outcome}
use Rattle.smv_parse_expressions.specs.declared.stop.Stop.{Stop}
use Rattle.smv_parse_expressions.specs.declared.stop.Stop.TheVariants.{Unexpected, TooDeep, OutOfMemory}

abbrev pub HaltsWith : {A : Type 0} → Bool → ℕ → Outcome A → Type 0
HaltsWith {A} deep left o = (bad : Tokens) × (o ≡ Err (Halts deep bad)) × (length bad ≡ left)

-- the reader halts so, unless memory ran out
abbrev pub StopsAs : {A : Type 0} → Stop → Outcome A → Type 0
StopsAs (Unexpected left) o = HaltsWith false left o
StopsAs (TooDeep left) o = HaltsWith true left o
StopsAs OutOfMemory o = Unit {0}
