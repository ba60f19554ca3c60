-- When a text is translated, and why it is refused.
use Rattle.std.specs.Prelude.{◌≡◌, ◌<◌, ◌≤◌, ℕ, List, length, Some, None, Ok, Err}
use Rattle.smv_core.specs.Notation.{Tokens}
use Rattle.smv_lex.specs.Lexing.{lexed}
use Rattle.law_formulas.specs.Formulas.{FormulaText}
use Rattle.law_formulas.specs.Ninths.{first_ninth}
use Rattle.law_formula_texts.specs.Spelled.{SpellsFormulas}
use Rattle.law_formula_grammar.specs.Grammar.{text_rule}
use Rattle.law_formula_grammar.specs.Spelling.{IsUnexpectedBy, IsTooDeepBy}
use Rattle.law_translated_texts.specs.Translation.{Translation, translation_of}

-- how many levels may be open at one token
abbrev pub levels : ℕ
levels = 64

-- how many bytes a text may have, and its translation too
abbrev pub limit : ℕ
limit = 1048576

-- The text is not too long and its tokens spell this tree with its formulas, of which none has more than eight X.
pub record IsReadable (text : List ℕ) (ts : Tokens) (ft : FormulaText) : Type 0 where
  pub fits : length text ≤ limit
  pub read : lexed text ≡ Ok ts
  pub spelled : SpellsFormulas levels ts ft
  pub no_ninth : first_ninth ft.formulas ≡ None

-- this is the translation of the text, and it is not too long
pub record IsTranslated (text : List ℕ) (t : Translation) : Type 0 where
  pub tokens : Tokens
  pub tree : FormulaText
  pub readable : IsReadable text tokens tree
  pub translated : t ≡ translation_of text tokens tree
  pub fits : length t.text ≤ limit

-- Why a text is not translated, by the number and the offset: 31 where it is too long, 1 to 4 where it is no tokens, 5 and 6 where these spell no tree with formulas, 37 at the first X that is the ninth of its formula, and 31 where the translation is too long.
pub data IsRefused (text : List ℕ) : ℕ → ℕ → Type 0 where
  too_long : limit < length text → IsRefused text 31 0
  of_bytes : {number at : ℕ} → length text ≤ limit → lexed text ≡ Err (record { number = number; at = at }) → IsRefused text number at
  unexpected : {ts : Tokens} {at : ℕ} → length text ≤ limit → lexed text ≡ Ok ts → IsUnexpectedBy text_rule levels (length text) ts at → IsRefused text 5 at
  too_deep : {ts : Tokens} {at : ℕ} → length text ≤ limit → lexed text ≡ Ok ts → IsTooDeepBy text_rule levels ts at → IsRefused text 6 at
  too_many : {ts : Tokens} {ft : FormulaText} {at : ℕ} → length text ≤ limit → lexed text ≡ Ok ts → SpellsFormulas levels ts ft → first_ninth ft.formulas ≡ Some at → IsRefused text 37 at
  too_long_translated : {ts : Tokens} {ft : FormulaText} → IsReadable text ts ft → limit < length (translation_of text ts ft).text → IsRefused text 31 0
