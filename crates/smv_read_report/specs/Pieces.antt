-- Pieces of a text and what they are made of.
use Rattle.std.specs.Prelude.{ℕ, Bool, ◌&&◌, ◌||◌, not, ◌==◌, nat_le, List, [], ◌∷◌, ◌++◌, length, codes, Option, Some, None, if◌then◌else◌}
use Rattle.std.specs.List.{list_all, list_any}
use Rattle.std.specs.Option.{option_map}

-- these bytes in front of the first piece
abbrev pub led : List ℕ → List (List ℕ) → List (List ℕ)
led front [] = front ∷ []
led front (piece ∷ pieces) = (front ++ piece) ∷ pieces

-- the pieces between the bytes that are `at`, one more than these are
abbrev pub pieces : ℕ → List ℕ → List (List ℕ)
pieces at [] = [] ∷ []
pieces at (b ∷ bytes) = if b == at then [] ∷ pieces at bytes else led (b ∷ []) (pieces at bytes)

-- what stands before the last byte, where that is `at`
abbrev pub without_last : ℕ → List ℕ → Option (List ℕ)
without_last at [] = None
without_last at (b ∷ []) = if b == at then Some [] else None
without_last at (b ∷ other ∷ bytes) = option_map (λ front. b ∷ front) (without_last at (other ∷ bytes))

abbrev pub is_digit : ℕ → Bool
is_digit b = nat_le 48 b && nat_le b 57

-- a letter of ASCII, a digit, or one of `_`, `.`, `/`, `[`, `]`, `#` and `*`
abbrev pub is_word_byte : ℕ → Bool
is_word_byte b = nat_le 65 b && nat_le b 90 || nat_le 97 b && nat_le b 122 || is_digit b || list_any (λ sign. b == sign) (codes "_./[]#*")

-- a name, a class or a value
abbrev pub is_word : List ℕ → Bool
is_word piece = not (length piece == 0) && list_all is_word_byte piece

abbrev pub is_numeral : List ℕ → Bool
is_numeral piece = not (length piece == 0) && list_all is_digit piece
