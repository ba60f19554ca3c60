-- How many bytes a token has that stands at the front.
use Rattle.std.proofs.Common.{◌≡◌, ◌≤◌, ◌<◌, ◌+◌, ◌-◌, ℕ, suc, List, [], ◌∷◌, length, take, take_while, map, codes, drop, Bool, true, false, ◌||◌, if◌then◌else◌, Option, Some, None, is_some, nat_lt, refl, sym, ap, ◌∙◌, arith, get_or}
use Rattle.std.specs.List.{list_any}
use Rattle.std.specs.Option.{option_map, option_or, unwrap_or}
use Rattle.std.specs.Str.{bytes_eq}
use Rattle.smv_core.specs.declared.token.Token.{Token}
use Rattle.smv_core.specs.declared.token.TokenKind.{TokenKind}
use Rattle.smv_core.specs.declared.token.TokenKind.TheVariants.{Number}
use Rattle.smv_core.specs.Spellings.{signs, spelled_in}
use Rattle.smv_lex.specs.declared.front.Front.{Front}
use Rattle.smv_lex.specs.declared.front.Front.TheVariants.{Passed, Whole, Broken}
use Rattle.smv_lex.specs.Lexing.{is_blank, is_letter, is_digit, is_name_byte, is_in_line, begins, closing, word_front, number_front, sign_front, comment_front, front_of, word_kind, number_of}
use Rattle.law_lexed_parts.specs.Parts.{size_of, end_of, end_of_all}
use Rattle.law_lexed_parts.proofs.Seams.{found_by, line_of, comment_of, front-is}
use Rattle.smv_token_ends.specs.Fronts.{IsToken}

among : (table : List (TokenKind × List ℕ)) (bytes : List ℕ) → is_some (spelled_in table bytes) ≡ list_any (λ word. bytes_eq word bytes) (map (λ entry. entry.1) table)
among [] bytes = refl
among (entry ∷ more) bytes = by_test (bytes_eq entry.1 bytes) (among more bytes)
  where
    by_test : (b : Bool) → is_some (spelled_in more bytes) ≡ list_any (λ word. bytes_eq word bytes) (map (λ entry. entry.1) more) →
        is_some (if b then Some entry.0 else spelled_in more bytes) ≡ (b || list_any (λ word. bytes_eq word bytes) (map (λ entry. entry.1) more))
    by_test true h = refl
    by_test false h = h

pub sign_among : (bytes : List ℕ) → is_some (spelled_in signs bytes) ≡ list_any (λ word. bytes_eq word bytes) (map (λ entry. entry.1) signs)
sign_among bytes = among signs bytes

-- ---- by the first byte

abbrev IsWhole : Front → Type 0
IsWhole f = (kind : TokenKind) × (n : ℕ) × (f ≡ Whole kind n)

no-passed : (n : ℕ) → IsWhole (Passed n) → ⊥
no-passed n (kind, m, e) = absurd (cc (e))

no-broken : (n : ℕ) → IsWhole (Broken n) → ⊥
no-broken n (kind, m, e) = absurd (cc (e))

no-comment : (o : Option ℕ) → IsWhole (comment_front o) → ⊥
no-comment None w = no-broken 4 w
no-comment (Some n) w = no-passed (2 + n) w

word-size : (w : List ℕ) → IsWhole (word_front w) → size_of (word_front w) ≡ length w
unfolding word_front
word-size w h = by_test (nat_lt 64 (length w)) h
  where
    by_test : (b : Bool) → IsWhole (if b then Broken 3 else Whole (word_kind w) (length w)) → size_of (if b then Broken 3 else Whole (word_kind w) (length w)) ≡ length w
    by_test true h = absurd (no-broken 3 h)
    by_test false h = refl

number-size : (w : List ℕ) → IsWhole (number_front w) → size_of (number_front w) ≡ length w
unfolding number_front
number-size w h = by_test (nat_lt 511 (number_of w)) h
  where
    by_test : (b : Bool) → IsWhole (if b then Broken 2 else Whole (Number (number_of w)) (length w)) → size_of (if b then Broken 2 else Whole (Number (number_of w)) (length w)) ≡ length w
    by_test true h = absurd (no-broken 2 h)
    by_test false h = refl

module _ (word number sign : Front) (line : ℕ) (o : Option ℕ) where
  as-word : (t0 t1 t2 t3 t4 : Bool) → IsWhole (found_by t0 t1 t2 t3 t4 word number (Passed line) (comment_front o) sign) → t1 ≡ true → found_by t0 t1 t2 t3 t4 word number (Passed line) (comment_front o) sign ≡ word
  as-word true t1 t2 t3 t4 h e = absurd (no-passed 1 h)
  as-word false true t2 t3 t4 h e = refl
  as-word false false t2 t3 t4 h e = absurd (cc (e))

  as-number : (t0 t1 t2 t3 t4 : Bool) → IsWhole (found_by t0 t1 t2 t3 t4 word number (Passed line) (comment_front o) sign) → t1 ≡ false → t2 ≡ true → found_by t0 t1 t2 t3 t4 word number (Passed line) (comment_front o) sign ≡ number
  as-number true t1 t2 t3 t4 h e k = absurd (no-passed 1 h)
  as-number false true t2 t3 t4 h e k = absurd (cc (e))
  as-number false false true t3 t4 h e k = refl
  as-number false false false t3 t4 h e k = absurd (cc (k))

  as-sign : (t0 t1 t2 t3 t4 : Bool) → IsWhole (found_by t0 t1 t2 t3 t4 word number (Passed line) (comment_front o) sign) → t1 ≡ false → t2 ≡ false → found_by t0 t1 t2 t3 t4 word number (Passed line) (comment_front o) sign ≡ sign
  as-sign true t1 t2 t3 t4 h e k = absurd (no-passed 1 h)
  as-sign false true t2 t3 t4 h e k = absurd (cc (e))
  as-sign false false true t3 t4 h e k = absurd (cc (k))
  as-sign false false false true t4 h e k = absurd (no-passed line h)
  as-sign false false false false true h e k = absurd (no-comment o h)
  as-sign false false false false false h e k = refl

module _ (b : ℕ) (xs : List ℕ) (h : IsToken (b ∷ xs)) where
  whole : IsWhole (found_by (is_blank b) (is_letter b) (is_digit b) (begins (b ∷ xs) (codes "--")) (begins (b ∷ xs) (codes "/*")) (word_front (take_while is_name_byte (b ∷ xs))) (number_front (take_while is_digit (b ∷ xs))) (line_of (b ∷ xs)) (comment_of (b ∷ xs)) (sign_front (b ∷ xs)))
  whole = (h.0, h.1, sym (front-is b xs) ∙ h.2)

  word-at : is_letter b ≡ true → length (take_while is_name_byte (b ∷ xs)) ≡ size_of (front_of (b ∷ xs))
  word-at e =
      let is : front_of (b ∷ xs) ≡ word_front (take_while is_name_byte (b ∷ xs)) =
      front-is b xs ∙ as-word (word_front (take_while is_name_byte (b ∷ xs))) (number_front (take_while is_digit (b ∷ xs))) (sign_front (b ∷ xs)) (length (take_while is_in_line (b ∷ xs))) (closing (drop 2 (b ∷ xs))) (is_blank b) (is_letter b) (is_digit b) (begins (b ∷ xs) (codes "--")) (begins (b ∷ xs) (codes "/*")) whole e in
      sym (ap size_of is ∙ word-size (take_while is_name_byte (b ∷ xs)) (h.0, h.1, sym is ∙ h.2))

  number-at : is_letter b ≡ false → is_digit b ≡ true → length (take_while is_digit (b ∷ xs)) ≡ size_of (front_of (b ∷ xs))
  number-at e k =
      let is : front_of (b ∷ xs) ≡ number_front (take_while is_digit (b ∷ xs)) =
      front-is b xs ∙ as-number (word_front (take_while is_name_byte (b ∷ xs))) (number_front (take_while is_digit (b ∷ xs))) (sign_front (b ∷ xs)) (length (take_while is_in_line (b ∷ xs))) (closing (drop 2 (b ∷ xs))) (is_blank b) (is_letter b) (is_digit b) (begins (b ∷ xs) (codes "--")) (begins (b ∷ xs) (codes "/*")) whole e k in
      sym (ap size_of is ∙ number-size (take_while is_digit (b ∷ xs)) (h.0, h.1, sym is ∙ h.2))

  sign-at : is_letter b ≡ false → is_digit b ≡ false → size_of (sign_front (b ∷ xs)) ≡ size_of (front_of (b ∷ xs))
  sign-at e k =
      sym (ap size_of (front-is b xs ∙ as-sign (word_front (take_while is_name_byte (b ∷ xs))) (number_front (take_while is_digit (b ∷ xs))) (sign_front (b ∷ xs)) (length (take_while is_in_line (b ∷ xs))) (closing (drop 2 (b ∷ xs))) (is_blank b) (is_letter b) (is_digit b) (begins (b ∷ xs) (codes "--")) (begins (b ∷ xs) (codes "/*")) whole e k))

-- the same, of bytes that are not taken apart
pub no-first : (bytes : List ℕ) → length bytes < 1 → 0 ≡ size_of (front_of bytes)
unfolding front_of
no-first [] lt = refl
no-first (b ∷ xs) lt = absurd (omega (arith, lt))

pub word-first : (bytes : List ℕ) → IsToken bytes → 1 ≤ length bytes → is_letter (get_or bytes 0 0) ≡ true → length (take_while is_name_byte bytes) ≡ size_of (front_of bytes)
word-first [] h le e = absurd (omega (arith, le))
word-first (b ∷ xs) h le e = word-at b xs h e

pub number-first : (bytes : List ℕ) → IsToken bytes → 1 ≤ length bytes → is_letter (get_or bytes 0 0) ≡ false → is_digit (get_or bytes 0 0) ≡ true → length (take_while is_digit bytes) ≡ size_of (front_of bytes)
number-first [] h le e k = absurd (omega (arith, le))
number-first (b ∷ xs) h le e k = number-at b xs h e k

pub sign-first : (bytes : List ℕ) → IsToken bytes → 1 ≤ length bytes → is_letter (get_or bytes 0 0) ≡ false → is_digit (get_or bytes 0 0) ≡ false → size_of (sign_front bytes) ≡ size_of (front_of bytes)
sign-first [] h le e k = absurd (omega (arith, le))
sign-first (b ∷ xs) h le e k = sign-at b xs h e k

-- ---- the longest sign

sign-size : (three two one : List ℕ) (a b c : Option TokenKind) →
    size_of (unwrap_or (option_or (option_map (λ kind. Whole kind (length three)) a) (option_or (option_map (λ kind. Whole kind (length two)) b) (option_map (λ kind. Whole kind (length one)) c))) (Broken 1))
    ≡ (if is_some a then length three else if is_some b then length two else if is_some c then length one else 0)
sign-size three two one (Some k) b c = refl
sign-size three two one None (Some k) c = refl
sign-size three two one None None (Some k) = refl
sign-size three two one None None None = refl

pub sign_sizes : (bytes : List ℕ) →
    size_of (sign_front bytes) ≡ (if is_some (spelled_in signs (take 3 bytes)) then length (take 3 bytes) else if is_some (spelled_in signs (take 2 bytes)) then length (take 2 bytes) else if is_some (spelled_in signs (take 1 bytes)) then length (take 1 bytes) else 0)
unfolding sign_front
sign_sizes bytes = sign-size (take 3 bytes) (take 2 bytes) (take 1 bytes) (spelled_in signs (take 3 bytes)) (spelled_in signs (take 2 bytes)) (spelled_in signs (take 1 bytes))

-- ---- the last token

pub end-last : (text : List ℕ) (ts : List Token) (t d : Token) → 0 < length ts → t ≡ get_or ts (length ts - 1) d → end_of_all text ts ≡ end_of text t
end-last text [] t d lt e = absurd (omega (arith, lt))
end-last text (u ∷ []) t d lt e = ap (end_of text) (sym e)
end-last text (u ∷ v ∷ ts) t d lt e = end-last text (v ∷ ts) t d (omega arith) (e ∙ ap (λ k. get_or (u ∷ v ∷ ts) k d) (behind (length ts)))
  where
    behind : (n : ℕ) → suc (suc n) - 1 ≡ suc (suc n - 1)
    behind n = omega arith
