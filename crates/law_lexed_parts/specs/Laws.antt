-- The laws: what the crate's public functions say.
use Rattle.std.specs.Prelude.{◌≡◌, ◌+◌, ℕ, true, List, ◌∷◌, ◌++◌, length, Ok}
use Rattle.smv_core.specs.declared.token.Token.{Token}
use Rattle.smv_lex.specs.Lexing.{is_letter, lexed}
use Rattle.law_lexed_parts.specs.Parts.{moved_tokens, moved, behind, IsCut, tokens_before, IsReadAs, AreApart, begin_of, end_of_all}

-- bytes are read as their own tokens, whatever stands behind that does not go together with them, and then come the tokens of that
abbrev pub IsReadInParts : Type 0
IsReadInParts = (bytes other : List ℕ) (ts : List Token) → IsReadAs bytes ts → AreApart bytes other → lexed (bytes ++ other) ≡ behind ts (moved (length bytes) (lexed other))

-- two parts that do not go together are read as the tokens of both
abbrev pub PartsAreRead : Type 0
PartsAreRead = (bytes other : List ℕ) (ts us : List Token) → IsReadAs bytes ts → IsReadAs other us → AreApart bytes other → IsReadAs (bytes ++ other) (ts ++ moved_tokens (length bytes) us)

-- The bytes of some tokens, from the first byte of the first up to the last byte of the last, with what stands before and behind them.
pub record IsParted (text : List ℕ) (front middle rest : List Token) : Type 0 where
  pub before : List ℕ
  pub bytes : List ℕ
  pub after : List ℕ
  pub split : text ≡ before ++ (bytes ++ after)
  pub first : IsReadAs before front
  pub own : List Token
  pub read : IsReadAs bytes own
  pub moved_own : middle ≡ moved_tokens (length before) own
  pub others : List Token
  pub last : lexed after ≡ Ok others
  pub moved_others : rest ≡ moved_tokens (length before + length bytes) others
  pub starts : begin_of middle ≡ length before
  pub ends : end_of_all text middle ≡ length before + length bytes

-- so a text is parted around any of its tokens
abbrev pub TextsAreParted : Type 0
TextsAreParted = (text : List ℕ) (front : List Token) (t : Token) (middle rest : List Token) → lexed text ≡ Ok (front ++ (t ∷ middle ++ rest)) → IsParted text front (t ∷ middle) rest

-- Where a name begins behind some bytes, any other name may begin there: the lexer begins anew with it, and the tokens before it are the same.
abbrev pub NamesBeginAlike : Type 0
NamesBeginAlike = (c d : ℕ) (more other : List ℕ) → is_letter c ≡ true → is_letter d ≡ true → (bytes : List ℕ) → IsCut 0 bytes (c ∷ more) →
    IsCut 0 bytes (d ∷ other) × (tokens_before 0 0 bytes (d ∷ other) ≡ tokens_before 0 0 bytes (c ∷ more))
