-- When bytes spell a text with formulas, and the fault of bytes that spell none.
use Rattle.std.specs.Prelude.{◌≡◌, ℕ, List, length, Ok, Err}
use Rattle.smv_core.specs.Notation.{Tokens}
use Rattle.smv_lex.specs.Lexing.{lexed}
use Rattle.law_formulas.specs.Formulas.{FormulaText}
use Rattle.law_formula_texts.specs.Spelled.{SpellsFormulas}
use Rattle.law_formula_grammar.specs.Grammar.{text_rule}
use Rattle.law_formula_grammar.specs.Spelling.{IsUnexpectedBy, IsTooDeepBy}

-- how many levels may be open at one token
abbrev pub levels : ℕ
levels = 64

-- the bytes are these tokens, and they spell the text with its formulas
abbrev pub SpellsText : List ℕ → Tokens → FormulaText → Type 0
SpellsText text tokens tree = (lexed text ≡ Ok tokens) × SpellsFormulas levels tokens tree

-- The fault of bytes that spell no text with formulas, by its number and its offset: 1 to 4 at the first byte where no token and no comment begins,
-- or else, in tokens, 5 at the first token or end after which no text with formulas can go on, or 6 at the first token that opens a level too many.
pub data HasFault : List ℕ → ℕ → ℕ → Type 0 where
  of_bytes : {text : List ℕ} {number at : ℕ} → lexed text ≡ Err (record { number = number; at = at }) → HasFault text number at
  unexpected : {text : List ℕ} {tokens : Tokens} {at : ℕ} → lexed text ≡ Ok tokens → IsUnexpectedBy text_rule levels (length text) tokens at → HasFault text 5 at
  too_deep : {text : List ℕ} {tokens : Tokens} {at : ℕ} → lexed text ≡ Ok tokens → IsTooDeepBy text_rule levels tokens at → HasFault text 6 at
