-- How a list of tokens is written: one blank between two tokens, LF in place of the blank behind a `;`, and LF behind the last.
use Rattle.std.specs.Prelude.{ℕ, List, [], ◌∷◌, ◌++◌, map, get_or, if◌then◌else◌, flat_map}
use Rattle.std.specs.Fmt.{decimal}
use Rattle.smv_core.specs.declared.token.TokenKind.{TokenKind}
use Rattle.smv_core.specs.declared.token.TokenKind.TheVariants.{Ident, Number, Sign, Reserved}
use Rattle.smv_core.specs.Notation.{same_kind}
use Rattle.smv_core.specs.Signs.{semicolon}
use Rattle.smv_core.specs.Spellings.{signs, reserved_words}

abbrev pub Kinds : Type 0
Kinds = List TokenKind

-- the bytes of a token; a number has no leading zeros
abbrev pub bytes_of : TokenKind → List ℕ
bytes_of (Ident bytes) = bytes
bytes_of (Number value) = decimal value
bytes_of (Sign i) = get_or (map (λ entry. entry.1) signs) i []
bytes_of (Reserved i) = get_or (map (λ entry. entry.1) reserved_words) i []

-- what stands behind a token that is not the last
abbrev pub gap : TokenKind → ℕ
gap k = if same_kind k semicolon then 10 else 32

-- the tokens of a whole text
abbrev pub joined : Kinds → List ℕ
joined [] = []
joined (k ∷ []) = bytes_of k ++ 10 ∷ []
joined (k ∷ l ∷ more) = bytes_of k ++ gap k ∷ joined (l ∷ more)

-- a token, and tokens, behind which more follow
unfoldable pub spaced : TokenKind → List ℕ
spaced k = bytes_of k ++ gap k ∷ []

abbrev pub written : Kinds → List ℕ
written ks = flat_map spaced ks

-- a token before each
abbrev pub preceded : TokenKind → List Kinds → Kinds
preceded k more = flat_map (λ y. k ∷ y) more

-- a token between any two
abbrev pub separated : TokenKind → List Kinds → Kinds
separated k [] = []
separated k (x ∷ more) = x ++ preceded k more
