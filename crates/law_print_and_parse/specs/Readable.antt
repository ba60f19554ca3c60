-- The tokens that a text can have, as a reader of texts sees them.
use Rattle.std.specs.Prelude.{◌≡◌, ◌<◌, ◌≤◌, true, List, [], ◌∷◌, None, length}
use Rattle.smv_core.specs.declared.token.TokenKind.{TokenKind}
use Rattle.smv_core.specs.declared.token.TokenKind.TheVariants.{Ident, Number, Sign, Reserved}
use Rattle.smv_lex.specs.Longest.{is_word}
use Rattle.smv_core.specs.Spellings.{signs, reserved_words, spelled_in}

-- a token that a text can have: a name of at most 64 bytes that is no reserved word, a number of at most 511, a sign or a reserved word that stands in its table
abbrev pub IsReadable : TokenKind → Type 0
IsReadable (Ident bytes) = (is_word bytes ≡ true) × (length bytes ≤ 64) × (spelled_in reserved_words bytes ≡ None)
IsReadable (Number value) = value ≤ 511
IsReadable (Sign i) = i < length signs
IsReadable (Reserved i) = i < length reserved_words

-- each of the tokens
abbrev pub AreReadable : List TokenKind → Type 0
AreReadable [] = Unit {0}
AreReadable (k ∷ ks) = IsReadable k × AreReadable ks
