-- How far a part goes, token by token.
use Rattle.std.specs.Prelude.{ℕ, zero, suc, List, [], ◌∷◌, Option, Some, None}
use Rattle.smv_core.specs.declared.token.TokenKind.{TokenKind}
use Rattle.smv_core.specs.Signs.{open_paren, close_paren, open_bracket, close_bracket, open_brace, close_brace, semicolon, comma}
use Rattle.smv_core.specs.Notation.{Tokens}
use Rattle.law_translated_texts.specs.Parts.{extent}

abbrev pub opening : List TokenKind
opening = open_paren ∷ open_bracket ∷ open_brace ∷ []

abbrev pub ending : List TokenKind
ending = close_paren ∷ close_bracket ∷ close_brace ∷ []

abbrev pub parting : List TokenKind
parting = comma ∷ semicolon ∷ []

-- no tokens, or one and what comes behind it, where so many brackets are open
abbrev pub rest_of : Option ℕ → Tokens → ℕ
rest_of (Some depth) ts = suc (extent depth ts)
rest_of None ts = zero
