-- Worked bytes.
use Rattle.std.specs.Prelude.{◌≡◌, ℕ, List, [], ◌∷◌, codes, true, false}
use Rattle.smv_core.specs.declared.token.Token.{Token}
use Rattle.smv_core.specs.declared.token.TokenKind.{TokenKind}
use Rattle.smv_core.specs.declared.token.TokenKind.TheVariants.{Ident}
use Rattle.smv_core.specs.Signs.{open_bracket, close_bracket}
use Rattle.law_lexed_parts.specs.Parts.{IsReadAs, are_joined}

abbrev token : TokenKind → ℕ → Token
token kind at = record { kind = kind; at = at }

-- `x[i]` is read as its four tokens
abbrev pub ReadAlone : Type 0
ReadAlone = IsReadAs (codes "x[i]") (token (Ident (codes "x")) 0 ∷ token open_bracket 1 ∷ token (Ident (codes "i")) 2 ∷ token close_bracket 3 ∷ [])

-- bytes that end in a line comment are not read alone: it goes on with what comes behind
abbrev pub CommentGoesOn : Type 0
CommentGoesOn = (ts : List Token) → IsReadAs (codes "x -- y") ts → ⊥

-- `-` and `>`, and two letters, go together; a letter and `(` do not, and nothing goes together with a `)` before it, not even the beginning of a comment
abbrev pub WhatGoesTogether : Type 0
WhatGoesTogether = (are_joined 45 62 ≡ true) × (are_joined 71 97 ≡ true) × (are_joined 71 40 ≡ false) × (are_joined 41 45 ≡ false) × (are_joined 41 47 ≡ false)
