-- The laws in short: what the crate's public functions say.
use Rattle.std.specs.Prelude.{◌≡◌, ◌<◌, ℕ, Bool, true, false, [], ◌∷◌, Result, Ok, Err}
use Rattle.smv_core.specs.declared.tree.Expr.{Expr}
use Rattle.smv_core.specs.declared.tree.Text.{Text}
use Rattle.smv_core.specs.Notation.{Tokens}
use Rattle.smv_core.specs.Grammar.{expr_rule, below}
use Rattle.smv_core.specs.Spelling.{Spells, IsUnexpected, IsTooDeep, place_of_rest}
use Rattle.law_grammar.specs.Parsing.{Halt, Halts}
use Rattle.law_grammar.specs.Items.{read_text}

-- the tokens spell the expression, with at most n levels open at any of them
abbrev pub SpellsExpr : ℕ → Tokens → Expr → Type 0
SpellsExpr n ts x = expr_rule (λ at. 0) n (below (λ at. 0) n) ts x []

-- a list of tokens spells at most one expression, whatever the levels
abbrev pub IsOneExpr : Type 0
IsOneExpr = (n m : ℕ) (ts : Tokens) (x y : Expr) → SpellsExpr n ts x → SpellsExpr m ts y → x ≡ y

-- a list of tokens spells at most one text, whatever the levels
abbrev pub IsOneText : Type 0
IsOneText = (n m : ℕ) (ts : Tokens) (x y : Text) → Spells n ts x → Spells m ts y → x ≡ y

-- the answer of a parser within n levels is right for the tokens of a text of this length: the text that they spell, fault 5 or fault 6
abbrev pub IsRight : ℕ → ℕ → Tokens → Result Text Halt → Type 0
IsRight n length ts (Ok x) = Spells n ts x
IsRight n length ts (Err (Halts false bad)) = IsUnexpected n length ts (place_of_rest length bad)
IsRight n length ts (Err (Halts true bad)) = IsTooDeep n ts (place_of_rest length bad)

-- the answer of the reader is right
abbrev pub IsAnswered : Type 0
IsAnswered = (n length : ℕ) (ts : Tokens) → IsRight n length ts (read_text n ts)

-- the offsets rise along the tokens, up to the length of the text
abbrev pub Rise : ℕ → Tokens → Type 0
Rise length [] = Unit {0}
Rise length (t ∷ ts) = (t.at < place_of_rest length ts) × Rise length ts

-- the reader halts so, at this place
abbrev pub HaltsAt : ℕ → ℕ → Tokens → Bool → ℕ → Type 0
HaltsAt n length ts deep at = (bad : Tokens) × (read_text n ts ≡ Err (Halts deep bad)) × (at ≡ place_of_rest length bad)

-- no other answer is right: a text that is spelled is read, and a token or end that is fault 5, or a token that is fault 6, is where the reader halts so
abbrev pub IsOnlyText : Type 0
IsOnlyText = (n : ℕ) (ts : Tokens) (x : Text) → Spells n ts x → read_text n ts ≡ Ok x

abbrev pub IsOnlyUnexpected : Type 0
IsOnlyUnexpected = (n length : ℕ) (ts : Tokens) (at : ℕ) → Rise length ts → IsUnexpected n length ts at → HaltsAt n length ts false at

abbrev pub IsOnlyTooDeep : Type 0
IsOnlyTooDeep = (n length : ℕ) (ts : Tokens) (at : ℕ) → Rise length ts → IsTooDeep n ts at → HaltsAt n length ts true at
