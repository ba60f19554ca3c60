-- The laws: what the crate's public functions say.
use Rattle.std.specs.Prelude.{◌≡◌, ◌↔◌, ℕ, Bool, true, false, map, Result, Ok, Err}
use Rattle.smv_core.specs.declared.token.Token.{Token}
use Rattle.smv_core.specs.Notation.{Tokens, Rule}
use Rattle.smv_core.specs.Spelling.{place_of_rest}
use Rattle.law_grammar.specs.Parsing.{Halt, Halts}
use Rattle.law_grammar.specs.Laws.{Rise}
use Rattle.law_formulas.specs.Formulas.{FormulaText}
use Rattle.law_fresh_monitors.specs.Spots.{NoneTwice}
use Rattle.law_formula_texts.specs.Spelled.{SpellsFormulas}
use Rattle.law_formula_grammar.specs.Grammar.{text_rule}
use Rattle.law_formula_grammar.specs.Spelling.{SpellsBy, IsUnexpectedBy, IsTooDeepBy}
use Rattle.law_formula_grammar.specs.Readers.{read_text}

module _ {A : Type 0} (rule : (ℕ → ℕ) → ℕ → Rule A) where
  -- the answer of a reader within n levels is right for the tokens of a text of this length: what they spell, fault 5 or fault 6
  abbrev pub IsRightBy : ℕ → ℕ → Tokens → Result A Halt → Type 0
  IsRightBy n length ts (Ok a) = SpellsBy rule n ts a
  IsRightBy n length ts (Err (Halts false bad)) = IsUnexpectedBy rule n length ts (place_of_rest length bad)
  IsRightBy n length ts (Err (Halts true bad)) = IsTooDeepBy rule n ts (place_of_rest length bad)

-- a reader halts so, at this place
abbrev pub HaltsBy : {A : Type 0} → (ℕ → Tokens → Result A Halt) → ℕ → ℕ → Tokens → Bool → ℕ → Type 0
HaltsBy read n length ts deep at = (bad : Tokens) × (read n ts ≡ Err (Halts deep bad)) × (at ≡ place_of_rest length bad)

-- the same texts are spelled with the same lists of formulas as by the grammar that takes the formulas from their list, where no two tokens stand at one offset
abbrev pub IsSpelledSame : Type 0
IsSpelledSame = (n : ℕ) (ts : Tokens) (ft : FormulaText) → NoneTwice (map (λ (t : Token). t.at) ts) → SpellsBy text_rule n ts ft ↔ SpellsFormulas n ts ft

-- a list of tokens spells at most one text with formulas, whatever the levels
abbrev pub IsOneText : Type 0
IsOneText = (n m : ℕ) (ts : Tokens) (x y : FormulaText) → SpellsBy text_rule n ts x → SpellsBy text_rule m ts y → x ≡ y

-- the answer of the reader is right
abbrev pub IsAnswered : Type 0
IsAnswered = (n length : ℕ) (ts : Tokens) → IsRightBy text_rule n length ts (read_text n ts)

-- no other answer is right, where the offsets of the tokens rise
abbrev pub IsOnlyText : Type 0
IsOnlyText = (n : ℕ) (ts : Tokens) (x : FormulaText) → SpellsBy text_rule n ts x → read_text n ts ≡ Ok x

abbrev pub IsOnlyUnexpected : Type 0
IsOnlyUnexpected = (n length : ℕ) (ts : Tokens) (at : ℕ) → Rise length ts → IsUnexpectedBy text_rule n length ts at → HaltsBy read_text n length ts false at

abbrev pub IsOnlyTooDeep : Type 0
IsOnlyTooDeep = (n length : ℕ) (ts : Tokens) (at : ℕ) → Rise length ts → IsTooDeepBy text_rule n ts at → HaltsBy read_text n length ts true at
