-- The tokens that the lexer reads are tokens that a text can have.
use Rattle.std.proofs.Common.{◌≡◌, ℕ, zero, suc, ◌+◌, ◌-◌, ◌≤◌, Bool, true, false, ◌&&◌, cond, nat_lt, List, [], ◌∷◌, length, map, take, take_while, Option, Some, None, Ok, Err, refl, ap, sym, ◌∙◌, subst}
use Rattle.std.specs.List.{list_all}
use Rattle.std.specs.Option.{option_map, option_or, unwrap_or}
use Rattle.std.specs.Str.{bytes_eq}
use Rattle.std.proofs.lemmas.Bool.{ltb-true, ltb-false}
use Rattle.smv_core.specs.declared.token.Token.{Token}
use Rattle.smv_core.specs.declared.token.TokenKind.{TokenKind}
use Rattle.smv_core.specs.declared.token.TokenKind.TheVariants.{Ident, Number, Sign, Reserved}
use Rattle.smv_lex.specs.declared.front.Front.{Front}
use Rattle.smv_lex.specs.declared.front.Front.TheVariants.{Passed, Whole, Broken}
use Rattle.smv_core.specs.Spellings.{signs, reserved_words, spelled_in}
use Rattle.smv_lex.specs.Lexing.{Lexed, with_token, then_more, is_digit, is_name_byte, comment_front, word_kind, word_front, number_of, number_front, sign_front, front_of, lexed_from}
use Rattle.smv_lex.specs.Longest.{is_word}
use Rattle.smv_lex.proofs.Fronts.{front-cases}
use Rattle.smv_lex.proofs.Longest.{taken-word}
use Rattle.law_print_and_parse.specs.Readable.{IsReadable, AreReadable}

-- ---- tables

-- a sign or a reserved word within its table
abbrev is_listed : TokenKind → Bool
is_listed (Sign i) = nat_lt i 27
is_listed (Reserved i) = nat_lt i 33
is_listed k = false

listed-readable : (k : TokenKind) → is_listed k ≡ true → IsReadable k
listed-readable (Ident bytes) e = absurd cc
listed-readable (Number value) e = absurd cc
listed-readable (Sign i) e = ltb-true i 27 e
listed-readable (Reserved i) e = ltb-true i 33 e

spelled-listed : (table : List (TokenKind × List ℕ)) (bytes : List ℕ) (k : TokenKind) → list_all (λ entry. is_listed entry.0) table ≡ true → spelled_in table bytes ≡ Some k → is_listed k ≡ true
spelled-listed [] bytes k all e = absurd cc
spelled-listed (entry ∷ more) bytes k all e = by (is_listed entry.0) refl (bytes_eq entry.1 bytes) all e (spelled-listed more bytes k)
  where
    by : (r : Bool) → is_listed entry.0 ≡ r → (same : Bool) → (r && list_all (λ entry. is_listed entry.0) more) ≡ true → cond same (Some entry.0) (spelled_in more bytes) ≡ Some k →
        (list_all (λ entry. is_listed entry.0) more ≡ true → spelled_in more bytes ≡ Some k → is_listed k ≡ true) → is_listed k ≡ true
    by true is true rest e others = let same : entry.0 ≡ k = cc in ap is_listed (sym same) ∙ is
    by true is false rest e others = others rest e
    by false is same rest e others = absurd cc

sign-readable : (bytes : List ℕ) (k : TokenKind) → spelled_in signs bytes ≡ Some k → IsReadable k
sign-readable bytes k e = listed-readable k (spelled-listed signs bytes k refl e)

-- ---- fronts

-- where a token stands at the front, a text can have it
unfoldable pub IsReadableFront : Front → Type 0
IsReadableFront (Passed n) = Unit {0}
IsReadableFront (Whole kind n) = IsReadable kind
IsReadableFront (Broken number) = Unit {0}

passed-front : (n : ℕ) → IsReadableFront (Passed n)
unfolding IsReadableFront
passed-front n = tt

whole-front : (kind : TokenKind) (n : ℕ) → IsReadable kind → IsReadableFront (Whole kind n)
unfolding IsReadableFront
whole-front kind n readable = readable

broken-front : (number : ℕ) → IsReadableFront (Broken number)
unfolding IsReadableFront
broken-front number = tt

word-readable : (bytes : List ℕ) → is_word bytes ≡ true → length bytes ≤ 64 → IsReadable (word_kind bytes)
unfolding word_kind
word-readable bytes word short = by (spelled_in reserved_words bytes) refl
  where
    by : (o : Option TokenKind) → spelled_in reserved_words bytes ≡ o → IsReadable (unwrap_or o (Ident bytes))
    by None e = (word, short, e)
    by (Some k) e = listed-readable k (spelled-listed reserved_words bytes k refl e)

word-front : (bytes : List ℕ) → is_word bytes ≡ true → IsReadableFront (word_front bytes)
unfolding word_front
word-front bytes word = by (nat_lt 64 (length bytes)) refl
  where
    by : (long : Bool) → nat_lt 64 (length bytes) ≡ long → IsReadableFront (cond long (Broken 3) (Whole (word_kind bytes) (length bytes)))
    by true e = broken-front 3
    by false e = whole-front (word_kind bytes) (length bytes) (word-readable bytes word (ltb-false 64 (length bytes) e))

number-front : (digits : List ℕ) → IsReadableFront (number_front digits)
unfolding number_front
number-front digits = by (nat_lt 511 (number_of digits)) refl
  where
    by : (great : Bool) → nat_lt 511 (number_of digits) ≡ great → IsReadableFront (cond great (Broken 2) (Whole (Number (number_of digits)) (length digits)))
    by true e = broken-front 2
    by false e = whole-front (Number (number_of digits)) (length digits) (ltb-false 511 (number_of digits) e)

sign-front : (bytes : List ℕ) → IsReadableFront (sign_front bytes)
unfolding sign_front
sign-front bytes = any (spelled_in signs (take 3 bytes)) (spelled_in signs (take 2 bytes)) (spelled_in signs (take 1 bytes)) refl refl refl
  where
    any : (three two one : Option TokenKind) → spelled_in signs (take 3 bytes) ≡ three → spelled_in signs (take 2 bytes) ≡ two → spelled_in signs (take 1 bytes) ≡ one →
        IsReadableFront (unwrap_or (option_or (option_map (λ kind. Whole kind (length (take 3 bytes))) three)
        (option_or (option_map (λ kind. Whole kind (length (take 2 bytes))) two) (option_map (λ kind. Whole kind (length (take 1 bytes))) one))) (Broken 1))
    any (Some kind) two one e f g = whole-front kind (length (take 3 bytes)) (sign-readable (take 3 bytes) kind e)
    any None (Some kind) one e f g = whole-front kind (length (take 2 bytes)) (sign-readable (take 2 bytes) kind f)
    any None None (Some kind) e f g = whole-front kind (length (take 1 bytes)) (sign-readable (take 1 bytes) kind g)
    any None None None e f g = broken-front 1

comment-front : (end : Option ℕ) → IsReadableFront (comment_front end)
comment-front None = broken-front 4
comment-front (Some n) = passed-front (2 + n)

readable-fronts : (b : ℕ) (bytes : List ℕ) → IsReadableFront (front_of (b ∷ bytes))
readable-fronts b bytes =
    front-cases IsReadableFront b bytes (λ e. passed-front 1) (λ black letter. word-front (take_while is_name_byte (b ∷ bytes)) (taken-word b bytes letter))
    (λ letter digit. number-front (take_while is_digit (b ∷ bytes))) (λ black e. passed-front _) (λ e. comment-front _) (λ letter digit. sign-front (b ∷ bytes))

-- ---- texts

-- where a text is lexed, a text can have each of its tokens
abbrev AreLexedReadable : Lexed → Type 0
AreLexedReadable (Ok tokens) = AreReadable (map (λ token. token.kind) tokens)
AreLexedReadable (Err fault) = Unit {0}

then-readable : (at : ℕ) (front : Front) (more : ℕ → Lexed) → IsReadableFront front → ((n : ℕ) → AreLexedReadable (more n)) → AreLexedReadable (then_more at front more)
unfolding IsReadableFront
then-readable at (Passed n) more readable rest = rest n
then-readable at (Broken number) more readable rest = tt
then-readable at (Whole kind n) more readable rest = by (more n) (rest n)
  where
    by : (l : Lexed) → AreLexedReadable l → AreLexedReadable (with_token (record { kind = kind; at = at }) l)
    by (Ok tokens) others = (readable, others)
    by (Err fault) others = tt

lexed-readable : (at skip : ℕ) (bytes : List ℕ) → AreLexedReadable (lexed_from at skip bytes)
unfolding lexed_from
lexed-readable at skip [] = tt
lexed-readable at (suc skip) (b ∷ bytes) = lexed-readable (at + 1) skip bytes
lexed-readable at zero (b ∷ bytes) =
    then-readable at (front_of (b ∷ bytes)) (λ n. lexed_from (at + 1) (n - 1) bytes) (readable-fronts b bytes) (λ n. lexed-readable (at + 1) (n - 1) bytes)

pub tokens-readable : (bytes : List ℕ) (tokens : List Token) → lexed_from 0 0 bytes ≡ Ok tokens → AreReadable (map (λ token. token.kind) tokens)
tokens-readable bytes tokens e = subst AreLexedReadable e (lexed-readable 0 0 bytes)
