-- The longest token at a place, said of all fronts of what is left of a text, and what each fault says.
use Rattle.std.specs.Prelude.{◌≡◌, ◌+◌, ◌<◌, ◌≤◌, ℕ, Bool, true, false, ◌&&◌, if◌then◌else◌, List, [], ◌∷◌, codes, length, take, drop, Option, Some, None}
use Rattle.std.specs.List.{list_all}
use Rattle.smv_core.specs.declared.token.TokenKind.{TokenKind}
use Rattle.smv_core.specs.declared.token.TokenKind.TheVariants.{Number}
use Rattle.smv_core.specs.Spellings.{signs, spelled_in}
use Rattle.smv_lex.specs.Lexing.{is_letter, is_digit, is_name_byte, begins, word_kind, number_of}

-- a letter or `_`, and then letters, digits and `_`
abbrev pub is_word : List ℕ → Bool
is_word [] = false
is_word (b ∷ bytes) = is_letter b && list_all is_name_byte bytes

-- at least one digit, and nothing else
abbrev pub is_digits : List ℕ → Bool
is_digits [] = false
is_digits (b ∷ bytes) = list_all is_digit (b ∷ bytes)

-- what all these bytes are as one token, of any length and value
unfoldable pub kind_of : List ℕ → Option TokenKind
kind_of bytes = if is_word bytes then Some (word_kind bytes) else if is_digits bytes then Some (Number (number_of bytes)) else spelled_in signs bytes

-- no front of more than n bytes is a token
abbrev pub NoLonger : List ℕ → ℕ → Type 0
NoLonger text n = (m : ℕ) → n < m → m ≤ length text → kind_of (take m text) ≡ None

-- the first n bytes are a token of this kind, and no longer front is one
abbrev pub IsLongest : List ℕ → ℕ → TokenKind → Type 0
IsLongest text n kind = (kind_of (take n text) ≡ Some kind) × NoLonger text n

-- fault 1: no front is a token
abbrev pub HasNoToken : List ℕ → Type 0
HasNoToken text = NoLonger text 0

-- fault 2: the longest token is a number above 511
abbrev pub HasGreatNumber : List ℕ → Type 0
HasGreatNumber text = (n : ℕ) × (value : ℕ) × IsLongest text n (Number value) × (511 < value)

-- fault 3: the longest token is a word above 64 bytes
abbrev pub HasLongWord : List ℕ → Type 0
HasLongWord text = (n : ℕ) × (kind : TokenKind) × IsLongest text n kind × (is_word (take n text) ≡ true) × (64 < n)

-- fault 4: a `/*`, behind which there is no `*/`
abbrev pub HasOpenComment : List ℕ → Type 0
HasOpenComment text = (begins text (codes "/*") ≡ true) × ((k : ℕ) → begins (drop (2 + k) text) (codes "*/") ≡ false)
