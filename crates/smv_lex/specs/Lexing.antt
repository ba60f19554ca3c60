-- Lexing: the tokens of a text, or its first fault of 1 to 4. This file and Spellings are what a reader must believe.
use Rattle.std.specs.Prelude.{ℕ, zero, suc, ◌+◌, ◌-◌, ◌*◌, Bool, not, ◌&&◌, ◌||◌, if◌then◌else◌, ◌==◌, nat_eq, nat_le, nat_lt, List, [], ◌∷◌, codes, fold, length, take, take_while, drop, Option, Some, None, Result, Ok, Err}
use Rattle.std.specs.Option.{option_map, option_or, unwrap_or}
use Rattle.std.specs.List.{starts_with}
use Rattle.smv_core.specs.declared.fault.Fault.{Fault}
use Rattle.smv_core.specs.declared.token.Token.{Token}
use Rattle.smv_core.specs.declared.token.TokenKind.{TokenKind}
use Rattle.smv_core.specs.declared.token.TokenKind.TheVariants.{Ident, Number}
use Rattle.smv_lex.specs.declared.front.Front.{Front}
use Rattle.smv_lex.specs.declared.front.Front.TheVariants.{Passed, Whole, Broken}
use Rattle.smv_core.specs.Spellings.{signs, reserved_words, spelled_in}

-- tab, line feed, carriage return and space part tokens
abbrev pub is_blank : ℕ → Bool
is_blank b = b == 9 || b == 10 || b == 13 || b == 32

abbrev pub is_digit : ℕ → Bool
is_digit b = nat_le 48 b && nat_le b 57

-- a letter of ASCII, or `_`
abbrev pub is_letter : ℕ → Bool
is_letter b = nat_le 65 b && nat_le b 90 || nat_le 97 b && nat_le b 122 || b == 95

abbrev pub is_name_byte : ℕ → Bool
is_name_byte b = is_letter b || is_digit b

-- a line ends at a line feed alone
abbrev pub is_in_line : ℕ → Bool
is_in_line b = not (b == 10)

-- the bytes begin with these
abbrev pub begins : List ℕ → List ℕ → Bool
begins bytes front = starts_with nat_eq bytes front

-- the number that digits spell
abbrev pub number_of : List ℕ → ℕ
number_of digits = fold (λ value digit. 10 * value + (digit - 48)) 0 digits

-- a word is reserved, or a name
unfoldable pub word_kind : List ℕ → TokenKind
word_kind word = unwrap_or (spelled_in reserved_words word) (Ident word)

-- a word of at most 64 bytes
unfoldable pub word_front : List ℕ → Front
word_front word = if nat_lt 64 (length word) then Broken 3 else Whole (word_kind word) (length word)

-- a number of at most 511, by its value
unfoldable pub number_front : List ℕ → Front
number_front digits = if nat_lt 511 (number_of digits) then Broken 2 else Whole (Number (number_of digits)) (length digits)

-- these bytes as a sign
abbrev pub sign_of : List ℕ → Option Front
sign_of bytes = option_map (λ kind. Whole kind (length bytes)) (spelled_in signs bytes)

-- the longest sign at the front, which has at most three bytes, or fault 1
unfoldable pub sign_front : List ℕ → Front
sign_front bytes = unwrap_or (option_or (sign_of (take 3 bytes)) (option_or (sign_of (take 2 bytes)) (sign_of (take 1 bytes)))) (Broken 1)

-- how many bytes there are up to the first `*/`, that included
abbrev pub closing : List ℕ → Option ℕ
closing [] = None
closing (b ∷ bytes) = if begins (b ∷ bytes) (codes "*/") then Some 2 else option_map suc (closing bytes)

-- a comment of so many bytes behind its `/*`, or fault 4 where nothing closes it
abbrev pub comment_front : Option ℕ → Front
comment_front None = Broken 4
comment_front (Some n) = Passed (2 + n)

-- What stands at the front: a blank, a comment, a token or a fault. Comments come before signs.
unfoldable pub front_of : List ℕ → Front
front_of [] = Passed 0
front_of (b ∷ bytes) =
    if is_blank b then Passed 1 else
    if is_letter b then word_front (take_while is_name_byte (b ∷ bytes)) else
    if is_digit b then number_front (take_while is_digit (b ∷ bytes)) else
    if begins (b ∷ bytes) (codes "--") then Passed (length (take_while is_in_line (b ∷ bytes))) else
    if begins (b ∷ bytes) (codes "/*") then comment_front (closing (drop 2 (b ∷ bytes))) else
    sign_front (b ∷ bytes)

-- the tokens of a text, or its first fault
abbrev pub Lexed : Type 0
Lexed = Result (List Token) Fault

abbrev pub with_token : Token → Lexed → Lexed
with_token token (Ok tokens) = Ok (token ∷ tokens)
with_token token (Err fault) = Err fault

-- what stands at an offset, and then what comes after so many bytes
abbrev pub then_more : ℕ → Front → (ℕ → Lexed) → Lexed
then_more at (Passed n) more = more n
then_more at (Whole kind n) more = with_token (record { kind = kind; at = at }) (more n)
then_more at (Broken number) more = Err (record { number = number; at = at })

-- the tokens from an offset on, behind so many bytes that belong to what stands before
unfoldable pub lexed_from : ℕ → ℕ → List ℕ → Lexed
lexed_from at skip [] = Ok []
lexed_from at (suc skip) (b ∷ bytes) = lexed_from (at + 1) skip bytes
lexed_from at zero (b ∷ bytes) = then_more at (front_of (b ∷ bytes)) (λ n. lexed_from (at + 1) (n - 1) bytes)

-- What a text is: its tokens from the left, with their offsets, or the first fault from the left.
abbrev pub lexed : List ℕ → Lexed
lexed text = lexed_from 0 0 text
