-- The offsets of the tokens rise, and a fault of the bytes stands within them.
use Rattle.std.proofs.Common.{◌≡◌, ◌<◌, ◌≤◌, ◌+◌, ◌-◌, ℕ, zero, suc, Bool, true, false, List, [], ◌∷◌, Option, Some, None, Ok, Err, length, take, drop, take_while, nat_lt, cond, refl, subst, arith}
use Rattle.std.specs.Option.{option_map, option_or, unwrap_or}
use Rattle.smv_core.specs.declared.token.TokenKind.{TokenKind}
use Rattle.smv_core.specs.Spelling.{place_of_rest}
use Rattle.smv_lex.specs.declared.front.Front.{Front}
use Rattle.smv_lex.specs.declared.front.Front.TheVariants.{Passed, Whole, Broken}
use Rattle.smv_lex.specs.Lexing.{Lexed, with_token, then_more, front_of, lexed_from, lexed, is_name_byte, is_digit, closing, word_kind, number_of, word_front, number_front, sign_front, comment_front}
use Rattle.smv_core.specs.Spellings.{signs, spelled_in}
use Rattle.smv_lex.proofs.Fronts.{FitsIn, front-fits, front-cases}
use Rattle.law_grammar.specs.Laws.{Rise}

-- ---- which faults a place has

abbrev IsKnown : Front → Type 0
IsKnown front = (number : ℕ) → front ≡ Broken number → (1 ≤ number) × (number ≤ 4)

known : (number : ℕ) → 1 ≤ number → number ≤ 4 → IsKnown (Broken number)
known number low high other e = let same : number ≡ other = cc in (omega (arith, same), omega (arith, same))

word-known : (word : List ℕ) → IsKnown (word_front word)
unfolding word_front
word-known word = by (nat_lt 64 (length word))
  where
    by : (long : Bool) → IsKnown (cond long (Broken 3) (Whole (word_kind word) (length word)))
    by true = known 3 (omega arith) (omega arith)
    by false = λ number e. absurd cc

number-known : (digits : List ℕ) → IsKnown (number_front digits)
unfolding number_front
number-known digits = by (nat_lt 511 (number_of digits))
  where
    by : (great : Bool) → IsKnown (cond great (Broken 2) (Whole (TokenKind.Number (number_of digits)) (length digits)))
    by true = known 2 (omega arith) (omega arith)
    by false = λ number e. absurd cc

comment-known : (end : Option ℕ) → IsKnown (comment_front end)
comment-known None = known 4 (omega arith) (omega arith)
comment-known (Some n) = λ number e. absurd cc

sign-known : (bytes : List ℕ) → IsKnown (sign_front bytes)
unfolding sign_front
sign-known bytes = any (spelled_in signs (take 3 bytes)) (spelled_in signs (take 2 bytes)) (spelled_in signs (take 1 bytes))
  where
    any : (three two one : Option TokenKind) → IsKnown (unwrap_or (option_or (option_map (λ kind. Whole kind (length (take 3 bytes))) three)
        (option_or (option_map (λ kind. Whole kind (length (take 2 bytes))) two) (option_map (λ kind. Whole kind (length (take 1 bytes))) one))) (Broken 1))
    any (Some kind) two one = λ number e. absurd cc
    any None (Some kind) one = λ number e. absurd cc
    any None None (Some kind) = λ number e. absurd cc
    any None None None = known 1 (omega arith) (omega arith)

front-known : (b : ℕ) (bytes : List ℕ) → IsKnown (front_of (b ∷ bytes))
front-known b bytes =
    front-cases IsKnown b bytes (λ blank number e. absurd cc) (λ black letter. word-known (take_while is_name_byte (b ∷ bytes)))
    (λ letter digit. number-known (take_while is_digit (b ∷ bytes))) (λ black line number e. absurd cc) (λ comment. comment-known (closing (drop 2 (b ∷ bytes))))
    (λ letter digit. sign-known (b ∷ bytes))

-- ---- what is read from an offset on, up to the end

-- The tokens stand from an offset on, and rise; or the fault is one of 1 to 4 and stands there.
abbrev pub FromOn : ℕ → ℕ → Lexed → Type 0
FromOn end from (Ok tokens) = Rise end tokens × (from ≤ place_of_rest end tokens)
FromOn end from (Err fault) = (1 ≤ fault.number) × (fault.number ≤ 4) × (from ≤ fault.at) × (fault.at < end)

earlier : (end from at : ℕ) (read : Lexed) → from ≤ at → FromOn end at read → FromOn end from read
earlier end from at (Ok tokens) le h = (h.0, omega (arith, le, h.1))
earlier end from at (Err fault) le h = (h.0, h.1, omega (arith, le, h.2), h.3)

behind-token : (end at next : ℕ) (kind : TokenKind) (read : Lexed) → at < next → FromOn end next read → FromOn end at (with_token (record { kind = kind; at = at }) read)
behind-token end at next kind (Ok tokens) lt h = ((omega (arith, lt, h.1), h.0), omega arith)
behind-token end at next kind (Err fault) lt h = (h.0, h.1, omega (arith, lt, h.2), h.3)

pub from-on : (bytes : List ℕ) (at skip : ℕ) → skip ≤ length bytes → FromOn (at + length bytes) (at + skip) (lexed_from at skip bytes)
unfolding lexed_from FitsIn
from-on [] at skip le = (tt, omega (arith, le))
from-on (b ∷ bytes) at (suc skip) le =
    let h = from-on bytes (at + 1) skip (omega (arith, le)) in
    let P : ℕ → Type 0 = λ end. FromOn end (at + suc skip) (lexed_from (at + 1) skip bytes) in
    let e : at + 1 + length bytes ≡ at + length (b ∷ bytes) = omega arith in
    subst P e (earlier (at + 1 + length bytes) (at + suc skip) (at + 1 + skip) (lexed_from (at + 1) skip bytes) (omega arith) h)
from-on (b ∷ bytes) at zero le =
    by (front_of (b ∷ bytes)) refl (front-fits b bytes) (front-known b bytes) (λ k. from-on bytes (at + 1) k)
  where
    by : (front : Front) → front_of (b ∷ bytes) ≡ front → FitsIn (b ∷ bytes) front → IsKnown front
        → ((k : ℕ) → k ≤ length bytes → FromOn (at + 1 + length bytes) (at + 1 + k) (lexed_from (at + 1) k bytes))
        → FromOn (at + length (b ∷ bytes)) (at + 0) (then_more at front (λ n. lexed_from (at + 1) (n - 1) bytes))
    by (Passed n) is fits known more =
        let h = more (n - 1) (omega (arith, fits.0, fits.1)) in
        let P : ℕ → Type 0 = λ end. FromOn end (at + 0) (lexed_from (at + 1) (n - 1) bytes) in
        let e : at + 1 + length bytes ≡ at + length (b ∷ bytes) = omega arith in
        subst P e (earlier (at + 1 + length bytes) (at + 0) (at + 1 + (n - 1)) (lexed_from (at + 1) (n - 1) bytes) (omega arith) h)
    by (Whole kind n) is fits known more =
        let h = more (n - 1) (omega (arith, fits.0, fits.1)) in
        let read = lexed_from (at + 1) (n - 1) bytes in
        let P : ℕ → Type 0 = λ end. FromOn end (at + 0) (with_token (record { kind = kind; at = at }) read) in
        let e : at + 1 + length bytes ≡ at + length (b ∷ bytes) = omega arith in
        let Q : ℕ → Type 0 = λ from. FromOn (at + 1 + length bytes) from (with_token (record { kind = kind; at = at }) read) in
        let z : at ≡ at + 0 = omega arith in
        subst P e (subst Q z (behind-token (at + 1 + length bytes) at (at + 1 + (n - 1)) kind read (omega arith) h))
    by (Broken number) is fits known more =
        let k = known number refl in
        (k.0, k.1, omega arith, omega arith)

-- of a whole text
pub from-start : (text : List ℕ) → FromOn (length text) 0 (lexed text)
from-start text =
    let P : ℕ → Type 0 = λ end. FromOn end 0 (lexed text) in
    let e : 0 + length text ≡ length text = omega arith in
    subst P e (from-on text 0 0 (omega arith))
