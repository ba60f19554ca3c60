-- The answers of the parser of tokens.
use Rattle.std.specs.Prelude.{◌≡◌, ℕ, Bool, true, false, Result, Ok, Err}
use Rattle.smv_core.specs.declared.tree.Text.{Text}
use Rattle.smv_core.specs.declared.fault.Refusal.{Refusal}
use Rattle.smv_core.specs.declared.fault.Refusal.TheVariants.{Fault, OutOfMemory}
use Rattle.smv_core.specs.Notation.{Tokens}
use Rattle.smv_core.specs.Spelling.{place_of_rest}
use Rattle.law_grammar.specs.Parsing.{Halt, Halts}

-- the text breaks a rule: its number, and the place
abbrev pub fault : ℕ → ℕ → Refusal
fault number at = Fault (record { number = number; at = at })

abbrev pub IsFault : ℕ → ℕ → Result Text Refusal → Type 0
IsFault number at result = result ≡ Err (fault number at)

-- it is this answer, unless memory ran out
abbrev pub UnlessMemory : Result Text Refusal → Result Text Refusal → Type 0
UnlessMemory (Ok x) answer = Ok x ≡ answer
UnlessMemory (Err (Fault f)) answer = Err (Fault f) ≡ answer
UnlessMemory (Err OutOfMemory) answer = Unit {0}

-- the number of the fault where a reader halts
abbrev pub number_of_halt : Bool → ℕ
number_of_halt false = 5
number_of_halt true = 6

-- the fault is where the reader halts, unless memory ran out
abbrev pub RefusedAs : ℕ → Refusal → Result Text Halt → Type 0
RefusedAs length (Fault f) answer = (deep : Bool) × (bad : Tokens) × (answer ≡ Err (Halts deep bad)) × (Fault f ≡ fault (number_of_halt deep) (place_of_rest length bad))
RefusedAs length OutOfMemory answer = Unit {0}
