-- What stands at the front of a text, and how many bytes it has.
use Rattle.std.proofs.Common.{not, ◌||◌, ◌&&◌, ◌==◌, Option, Some, None, drop, nat_lt, drop-cons, add-one, length-drop, nat_eq, codes, get_or, ◌≡◌, ℕ, suc, ◌+◌, ◌<◌, ◌≤◌, List, [], ◌∷◌, refl, ap, sym, ◌∙◌, subst, arith, Bool, true, false, cond, All, take_while, length, take}
use Rattle.std.proofs.lemmas.List.Elements.{All-nil, All-cons}
use Rattle.std.proofs.lemmas.List.Sums.{take_while-cons, prefix_len-le-length}
use Rattle.std.proofs.lemmas.List.{length-take-le, length-take}
use Rattle.std.specs.List.{prefix_len}
use Rattle.std.specs.Option.{option_map, option_or, unwrap_or}
use Rattle.smv_lex.specs.declared.front.Front.{Front}
use Rattle.smv_lex.specs.declared.front.Front.TheVariants.{Passed, Whole, Broken}
use Rattle.smv_core.specs.declared.token.TokenKind.{TokenKind}
use Rattle.smv_core.specs.declared.token.TokenKind.TheVariants.{Number}
use Rattle.smv_core.specs.Spellings.{signs, spelled_in}
use Rattle.smv_lex.specs.Lexing.{is_blank, is_letter, is_digit, is_name_byte, is_in_line, begins, closing, word_front, number_front, sign_front, comment_front, front_of, word_kind, number_of}

digits_more : (b : ℕ) (bytes : List ℕ) (r : Bool) → is_digit b ≡ r → All (λ b. is_digit b ≡ true) (take_while is_digit bytes) →
    All (λ b. is_digit b ≡ true) (cond r (b ∷ take_while is_digit bytes) [])
digits_more b bytes true is more = All-cons (λ b. is_digit b ≡ true) b (take_while is_digit bytes) is more
digits_more b bytes false is more = All-nil (λ b. is_digit b ≡ true)

all_digits : (bytes : List ℕ) → All (λ b. is_digit b ≡ true) (take_while is_digit bytes)
all_digits [] = All-nil (λ b. is_digit b ≡ true)
all_digits (b ∷ bytes) =
    subst (All (λ b. is_digit b ≡ true)) (sym (take_while-cons is_digit b bytes)) (digits_more b bytes (is_digit b) refl (all_digits bytes))

pub front_of_digits : (bytes : List ℕ) (n : ℕ) → n ≡ length (take_while is_digit bytes) → All (λ b. is_digit b ≡ true) (take n bytes)
front_of_digits bytes n is =
    let front : take n bytes ≡ take_while is_digit bytes =
    ap (λ k. take k bytes) (is ∙ length-take-le (prefix_len is_digit bytes) bytes (prefix_len-le-length is_digit bytes))
    in
    subst (All (λ b. is_digit b ≡ true)) (sym front) (all_digits bytes)

-- so many bytes further, and one more
further : (at : ℕ) (end : Option ℕ) → option_map (λ n. suc at + n) end ≡ option_map (λ n. at + n) (option_map suc end)
further at None = refl
further at (Some n) = ap Some (omega arith)

-- a byte of a comment is passed
pub closing-more : (bytes : List ℕ) (at : ℕ) → at < length bytes → begins (drop at bytes) (codes "*/") ≡ false →
    option_map (λ n. at + 1 + n) (closing (drop (at + 1) bytes)) ≡ option_map (λ n. at + n) (closing (drop at bytes))
closing-more bytes at inside unclosed =
    let here = drop-cons bytes at 0 inside in
    let none : begins (get_or bytes at 0 ∷ drop (suc at) bytes) (codes "*/") ≡ false = subst (λ l. begins l (codes "*/") ≡ false) here unclosed in
    rw (here, none, add-one) (further at (closing (drop (suc at) bytes)))

-- bytes that begin with two have two
pub two-bytes : (x y : ℕ) (bytes : List ℕ) → begins bytes (x ∷ y ∷ []) ≡ true → 2 ≤ length bytes
two-bytes x y [] e = absurd cc
two-bytes x y (b ∷ []) e = absurd (short (nat_eq x b) e)
  where
    short : (r : Bool) → (r && false) ≡ true → ⊥
    short true e = absurd cc
    short false e = absurd cc
two-bytes x y (b ∷ c ∷ bytes) e = omega arith

-- a byte that is no blank does not end a line
in_line : (b : ℕ) → is_blank b ≡ false → is_in_line b ≡ true
in_line b black = by (b == 9) (b == 10) black
  where
    by : (r s : Bool) → (r || s || b == 13 || b == 32) ≡ false → not s ≡ true
    by true s e = absurd cc
    by false true e = absurd cc
    by false false e = refl

-- ---- how many bytes stand at the front

-- at least one byte, and at most those that are left
abbrev pub Within : List ℕ → ℕ → Type 0
Within bytes n = (0 < n) × (n ≤ length bytes)

unfoldable pub FitsIn : List ℕ → Front → Type 0
FitsIn bytes (Passed n) = Within bytes n
FitsIn bytes (Whole kind n) = Within bytes n
FitsIn bytes (Broken number) = Unit {0}

fits-passed : (bytes : List ℕ) (n : ℕ) → Within bytes n → FitsIn bytes (Passed n)
unfolding FitsIn
fits-passed bytes n fits = fits

fits-whole : (bytes : List ℕ) (kind : TokenKind) (n : ℕ) → Within bytes n → FitsIn bytes (Whole kind n)
unfolding FitsIn
fits-whole bytes kind n fits = fits

fits-broken : (bytes : List ℕ) (number : ℕ) → FitsIn bytes (Broken number)
unfolding FitsIn
fits-broken bytes number = tt

-- by what stands at the front
pub front-cases : (P : Front → Type 0) (b : ℕ) (bytes : List ℕ) → (is_blank b ≡ true → P (Passed 1)) →
    (is_blank b ≡ false → is_letter b ≡ true → P (word_front (take_while is_name_byte (b ∷ bytes)))) →
    (is_letter b ≡ false → is_digit b ≡ true → P (number_front (take_while is_digit (b ∷ bytes)))) →
    (is_blank b ≡ false → begins (b ∷ bytes) (codes "--") ≡ true → P (Passed (length (take_while is_in_line (b ∷ bytes))))) →
    (begins (b ∷ bytes) (codes "/*") ≡ true → P (comment_front (closing (drop 2 (b ∷ bytes))))) →
    (is_letter b ≡ false → is_digit b ≡ false → P (sign_front (b ∷ bytes))) → P (front_of (b ∷ bytes))
unfolding front_of
front-cases P b bytes blank word number line comment sign =
    by (is_blank b) (is_letter b) (is_digit b) (begins (b ∷ bytes) (codes "--")) (begins (b ∷ bytes) (codes "/*")) refl refl refl refl refl
  where
    by : (is-blank is-letter is-digit is-line is-comment : Bool) → is_blank b ≡ is-blank → is_letter b ≡ is-letter → is_digit b ≡ is-digit →
        begins (b ∷ bytes) (codes "--") ≡ is-line → begins (b ∷ bytes) (codes "/*") ≡ is-comment →
        P (cond is-blank (Passed 1) (cond is-letter (word_front (take_while is_name_byte (b ∷ bytes))) (cond is-digit (number_front (take_while is_digit (b ∷ bytes)))
        (cond is-line (Passed (length (take_while is_in_line (b ∷ bytes)))) (cond is-comment (comment_front (closing (drop 2 (b ∷ bytes)))) (sign_front (b ∷ bytes)))))))
    by true l d m c e f g h i = blank e
    by false true d m c e f g h i = word e f
    by false false true m c e f g h i = number f g
    by false false false true c e f g h i = line e h
    by false false false false true e f g h i = comment i
    by false false false false false e f g h i = sign f g

-- a first byte that passes is taken
some-taken : (p : ℕ → Bool) (b : ℕ) (bytes : List ℕ) → p b ≡ true → Within (b ∷ bytes) (length (take_while p (b ∷ bytes)))
some-taken p b bytes passes =
    let n = prefix_len p (b ∷ bytes) in
    let is : length (take_while p (b ∷ bytes)) ≡ n = length-take-le n (b ∷ bytes) (prefix_len-le-length p (b ∷ bytes)) in
    let one : n ≡ 1 + prefix_len p bytes = rw passes refl in
    (omega (arith, is, one), omega (arith, is, prefix_len-le-length p (b ∷ bytes)))

word-fits : (bytes word : List ℕ) → Within bytes (length word) → FitsIn bytes (word_front word)
unfolding word_front
word-fits bytes word fits = by (nat_lt 64 (length word))
  where
    by : (long : Bool) → FitsIn bytes (cond long (Broken 3) (Whole (word_kind word) (length word)))
    by true = fits-broken bytes 3
    by false = fits-whole bytes (word_kind word) (length word) fits

number-fits : (bytes digits : List ℕ) → Within bytes (length digits) → FitsIn bytes (number_front digits)
unfolding number_front
number-fits bytes digits fits = by (nat_lt 511 (number_of digits))
  where
    by : (great : Bool) → FitsIn bytes (cond great (Broken 2) (Whole (Number (number_of digits)) (length digits)))
    by true = fits-broken bytes 2
    by false = fits-whole bytes (Number (number_of digits)) (length digits) fits

sign-fits : (b : ℕ) (bytes : List ℕ) → FitsIn (b ∷ bytes) (sign_front (b ∷ bytes))
unfolding sign_front
sign-fits b bytes = any (spelled_in signs (take 3 (b ∷ bytes))) (spelled_in signs (take 2 (b ∷ bytes))) (spelled_in signs (take 1 (b ∷ bytes)))
  where
    fits : (n : ℕ) → 0 < n → Within (b ∷ bytes) (length (take n (b ∷ bytes)))
    fits n some = (omega (arith, some, length-take n (b ∷ bytes)), omega (arith, length-take n (b ∷ bytes)))

    any : (three two one : Option TokenKind) → FitsIn (b ∷ bytes) (unwrap_or (option_or (option_map (λ kind. Whole kind (length (take 3 (b ∷ bytes)))) three)
        (option_or (option_map (λ kind. Whole kind (length (take 2 (b ∷ bytes)))) two) (option_map (λ kind. Whole kind (length (take 1 (b ∷ bytes)))) one))) (Broken 1))
    any (Some kind) two one = fits-whole _ kind _ (fits 3 (omega arith))
    any None (Some kind) one = fits-whole _ kind _ (fits 2 (omega arith))
    any None None (Some kind) = fits-whole _ kind _ (fits 1 (omega arith))
    any None None None = fits-broken _ 1

-- the end of a comment is within the bytes
closing-within : (bytes : List ℕ) (n : ℕ) → closing bytes ≡ Some n → n ≤ length bytes
closing-within [] n e = absurd cc
closing-within (b ∷ bytes) n e = by (begins (b ∷ bytes) (codes "*/")) refl (closing bytes) (closing-within bytes) e
  where
    by : (r : Bool) → begins (b ∷ bytes) (codes "*/") ≡ r → (end : Option ℕ) → ((n : ℕ) → end ≡ Some n → n ≤ length bytes) → cond r (Some 2) (option_map suc end) ≡ Some n → n ≤ length (b ∷ bytes)
    by true is end more e = let two : 2 ≡ n = cc in omega (arith, two, two-bytes 42 47 (b ∷ bytes) is)
    by false is None more e = absurd cc
    by false is (Some k) more e = let one : suc k ≡ n = cc in omega (arith, one, more k refl)

comment-fits : (bytes : List ℕ) → 2 ≤ length bytes → FitsIn bytes (comment_front (closing (drop 2 bytes)))
comment-fits bytes two = by (closing (drop 2 bytes)) refl
  where
    by : (end : Option ℕ) → closing (drop 2 bytes) ≡ end → FitsIn bytes (comment_front end)
    by None e = fits-broken bytes 4
    by (Some n) e = fits-passed bytes (2 + n) (omega arith, omega (arith, two, closing-within (drop 2 bytes) n e, length-drop 2 bytes))

-- What stands at the front has at least one byte, and is within the text.
pub front-fits : (b : ℕ) (bytes : List ℕ) → FitsIn (b ∷ bytes) (front_of (b ∷ bytes))
front-fits b bytes =
    front-cases (FitsIn (b ∷ bytes)) b bytes (λ e. fits-passed (b ∷ bytes) 1 (omega arith, omega arith))
    (λ black e. word-fits (b ∷ bytes) _ (some-taken is_name_byte b bytes (rw e refl)))
    (λ e f. number-fits (b ∷ bytes) _ (some-taken is_digit b bytes f))
    (λ black e. fits-passed (b ∷ bytes) _ (some-taken is_in_line b bytes (in_line b black)))
    (λ e. comment-fits (b ∷ bytes) (two-bytes 47 42 (b ∷ bytes) e))
    (λ e f. sign-fits b bytes)

-- the same of a place in a text
pub place-fits : (text : List ℕ) (at : ℕ) (front : Front) → at < length text → front_of (drop at text) ≡ front → FitsIn (drop at text) front
place-fits text at front inside is = rw (← is, drop-cons text at 0 inside) (front-fits (get_or text at 0) (drop (suc at) text))

pub passed-within : (text : List ℕ) (at n : ℕ) → at < length text → front_of (drop at text) ≡ Passed n → (0 < n) × (at + n ≤ length text)
unfolding FitsIn
passed-within text at n inside is = let fits = place-fits text at (Passed n) inside is in (fits.0, omega (arith, fits.1, inside, length-drop at text))

pub token-within : (text : List ℕ) (at n : ℕ) (kind : TokenKind) → at < length text → front_of (drop at text) ≡ Whole kind n → (0 < n) × (at + n ≤ length text)
unfolding FitsIn
token-within text at n kind inside is = let fits = place-fits text at (Whole kind n) inside is in (fits.0, omega (arith, fits.1, inside, length-drop at text))

pub passed-some : (b : ℕ) (bytes : List ℕ) (n : ℕ) → front_of (b ∷ bytes) ≡ Passed n → 0 < n
unfolding FitsIn
passed-some b bytes n is = (subst (FitsIn (b ∷ bytes)) is (front-fits b bytes)).0

pub token-some : (b : ℕ) (bytes : List ℕ) (n : ℕ) (kind : TokenKind) → front_of (b ∷ bytes) ≡ Whole kind n → 0 < n
unfolding FitsIn
token-some b bytes n kind is = (subst (FitsIn (b ∷ bytes)) is (front-fits b bytes)).0
