-- The laws: what the crate's public functions say.
use Rattle.std.specs.Prelude.{◌≡◌, ◌+◌, ◌++◌, ℕ, List, length, Bool, true, Ok}
use Rattle.smv_core.specs.declared.tree.Word.{Word}
use Rattle.smv_core.specs.declared.tree.Expr.{Expr}
use Rattle.smv_core.specs.declared.tree.Text.{Text}
use Rattle.smv_core.specs.Notation.{Tokens}
use Rattle.smv_core.specs.Spelling.{Spells}
use Rattle.smv_lex.specs.Lexing.{lexed}
use Rattle.law_grammar.specs.Laws.{SpellsExpr}
use Rattle.law_places.specs.Placeless.{placeless_text}
use Rattle.law_lexed_parts.specs.Parts.{moved_tokens, IsReadAs, AreApart, begin_of, end_of_all}
use Rattle.law_spelled_alike.specs.Local.{kinds_of}
use Rattle.law_exchanged.specs.Changed.{changed_text, put_in, count_tops}
use Rattle.law_exchanged.specs.Claims.{body_tokens, IsHeaded, IsClosed}

-- with this expression in place of that of each claim that passes the test, in the modules that pass the other, it is this text, but for places, splits and uses
abbrev pub IsWith : (Word → Bool) → (Word → Bool) → Text → Expr → Text → Type 0
IsWith within test x y new = placeless_text (changed_text within (put_in test y) x) ≡ placeless_text new

-- The tokens of one claim's expression, with what stands before and behind them: the claim's head, and a `;`. The expression is spelled within so many levels.
pub record IsPlaced (n gap : ℕ) (within test : Word → Bool) (ts : Tokens) (x : Text) : Type 0 where
  pub front : Tokens
  pub middle : Tokens
  pub behind : Tokens
  pub split : ts ≡ front ++ (middle ++ behind)
  pub word : Word
  pub chosen : test word ≡ true
  pub headed : IsHeaded word front
  pub closed : IsClosed behind
  pub levels : ℕ
  pub body : Expr
  pub spelled : SpellsExpr levels middle body
  pub own : IsWith within test x body x
  -- Other tokens that spell an expression within more levels by the gap, between tokens of the same kinds as those around, spell the text with that expression in place of the claim's.
  pub exchanged : (us vs ws : Tokens) (y : Expr) → kinds_of us ≡ kinds_of front → SpellsExpr (levels + gap) vs y → kinds_of ws ≡ kinds_of behind → (new : Text) × Spells (n + gap) (us ++ (vs ++ ws)) new × IsWith within test x y new

-- so it is for the one claim of a text that passes a test, in the modules that pass another
abbrev pub IsOneExchanged : Type 0
IsOneExchanged = (n gap : ℕ) (within test : Word → Bool) (ts : Tokens) (x : Text) → Spells n ts x → count_tops within test x.tops ≡ 1 → IsPlaced n gap within test ts x

-- The bytes of one claim's expression, from the first byte of its first token up to the last byte of its last, with what stands before and behind them. They are those of the tokens behind the claim's `G`.
pub record IsPlacedInBytes (n gap : ℕ) (within test : Word → Bool) (text : List ℕ) (x : Text) : Type 0 where
  pub before : List ℕ
  pub bytes : List ℕ
  pub after : List ℕ
  pub split : text ≡ before ++ (bytes ++ after)
  pub tokens : Tokens
  pub read : IsReadAs bytes tokens
  pub word : Word
  pub chosen : test word ≡ true
  pub all : Tokens
  pub all_read : lexed text ≡ Ok all
  pub own_tokens : body_tokens word.at all ≡ moved_tokens (length before) tokens
  pub starts : begin_of (body_tokens word.at all) ≡ length before
  pub ends : end_of_all text (body_tokens word.at all) ≡ length before + length bytes
  pub levels : ℕ
  pub body : Expr
  pub spelled : SpellsExpr levels tokens body
  pub own : IsWith within test x body x
  -- Other bytes that spell an expression within more levels by the gap, and do not go together with those around, spell the text with that expression in place of the claim's.
  pub exchanged : (bytes : List ℕ) (ts : Tokens) (y : Expr) → IsReadAs bytes ts → SpellsExpr (levels + gap) ts y → AreApart before (bytes ++ after) → AreApart bytes after →
      (us : Tokens) × (new : Text) × (lexed (before ++ (bytes ++ after)) ≡ Ok us) × Spells (n + gap) us new × IsWith within test x y new

-- so it is for the bytes of a text
abbrev pub AreBytesExchanged : Type 0
AreBytesExchanged = (n gap : ℕ) (within test : Word → Bool) (text : List ℕ) (ts : Tokens) (x : Text) → lexed text ≡ Ok ts → Spells n ts x → count_tops within test x.tops ≡ 1 → IsPlacedInBytes n gap within test text x
