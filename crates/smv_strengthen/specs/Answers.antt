-- What is answered where a text is to be strengthened.
use Rattle.std.specs.Prelude.{◌≡◌, ◌⊎◌, ◌≤◌, ◌+◌, ℕ, List, length, Result, Ok, Err}
use Rattle.smv_core.specs.Values.{Name}
use Rattle.smv_core.specs.declared.fault.Fault.{Fault}
use Rattle.smv_core.specs.declared.fault.Refusal.{Refusal}
use Rattle.smv_core.specs.declared.fault.Refusal.TheVariants as refusal
use Rattle.smv_core.specs.Notation.{Tokens}
use Rattle.smv_lex.specs.Lexing.{lexed}
use Rattle.smv_parse.specs.Spelling.{HasFault}
use Rattle.law_strengthened_texts.specs.Stronger as texts
use Rattle.law_strengthened_texts.specs.Stronger.{HasNoInduction, strengthened}
use Rattle.smv_strengthen.specs.declared.Stronger.{Stronger}
use Rattle.smv_strengthen.specs.declared.place.Place.{Place}

-- the strengthened text as its definition has it
abbrev pub shown : Stronger → texts.Stronger
shown s = record { text = s.text; from = s.from; old = s.old; new = s.new; at = s.at }

-- Why a text is not strengthened: it has a fault of 1 to 6, or no induction of it is this one, which is 36 at its front.
abbrev pub IsRefused : List ℕ → Name → Name → ℕ → ℕ → Type 0
IsRefused text name var number at = HasFault text number at ⊎ (HasNoInduction text name var × (number ≡ 36) × (at ≡ 0))

-- the answer is this strengthened text, unless memory ran out
abbrev pub IsTheStronger : Result Stronger Refusal → texts.Stronger → Type 0
IsTheStronger (Ok s) t = shown s ≡ t
IsTheStronger (Err refusal.OutOfMemory) t = Unit {0}
IsTheStronger (Err (refusal.Fault fault)) t = ⊥

-- what stands in place of the expression is within the strengthened text, which is longer by the difference of the two
abbrev pub IsWithin : List ℕ → Stronger → Type 0
IsWithin text s = (s.from + s.new ≤ length s.text) × (length s.text + s.old ≡ length text + s.new)

-- the text, whatever its tokens are, strengthened at this place
abbrev pub IsOfPlace : List ℕ → Name → Place → Stronger → Type 0
IsOfPlace text var place s = (ts : Tokens) → lexed text ≡ Ok ts → shown s ≡ strengthened text ts var place.set place.at

-- the text is no tokens
abbrev pub IsLexFault : List ℕ → Fault → Type 0
IsLexFault text fault = lexed text ≡ Err fault
