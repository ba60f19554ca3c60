-- Bytes that do not part pieces, and pieces that are parted by one byte.
use Rattle.std.proofs.Common.{◌≡◌, ◌∙◌, ◌+◌, ◌-◌, ◌/◌, ◌%◌, ◌<◌, ℕ, zero, suc, Bool, true, false, not, List, [], ◌∷◌, ◌++◌, ap, append_assoc, arith, decimal, eq-eqb, length, refl, sym, true≢false}
use Rattle.std.specs.Prelude.{Some, option_map, ◌==◌, if◌then◌else◌}
use Rattle.std.specs.Fmt.{digits, digit_glyph, digits_onto}
use Rattle.std.specs.List.{list_all}
use Rattle.std.specs.Cmp.Derive.{both_true}
use Rattle.std.specs.Cmp.Lexicographic.{pointwise}
use Rattle.std.specs.Str.{bytes_eq}
use Rattle.std.proofs.lemmas.Bool.{eqb-true, le-leb, lt-ltb, not-true}
use Rattle.std.proofs.Math.Dec.{eqb-suc-zero}
use Rattle.std.proofs.lemmas.List.Folds.{list_all-append}
use Rattle.law_lists.proofs.Booleans.{left_of, right_of}
use Rattle.smv_read_report.specs.Pieces.{is_digit, is_numeral, is_word, is_word_byte, pieces, without_last}

-- ---- tests

pub same_bytes : (bytes : List ℕ) → bytes_eq bytes bytes ≡ true
same_bytes [] = refl
same_bytes (b ∷ bytes) = both_true (eq-eqb b b refl) (same_bytes bytes)

pub same_names : (names : List (List ℕ)) → pointwise bytes_eq names names ≡ true
same_names [] = refl
same_names (name ∷ names) = both_true (same_bytes name) (same_names names)

-- ---- bytes that are not there

abbrev pub lacks : ℕ → List ℕ → Bool
lacks at bytes = list_all (λ b. not (b == at)) bytes

differs : (p : ℕ → Bool) (at : ℕ) → p at ≡ false → (b : ℕ) → p b ≡ true → not (b == at) ≡ true
differs p at out b is = of (b == at) refl
  where
    of : (t : Bool) → (b == at) ≡ t → not t ≡ true
    of false _ = refl
    of true same = absurd (true≢false (sym is ∙ ap p (eqb-true b at same) ∙ out))

-- bytes that pass a test lack one that does not
pub test_lacks : (p : ℕ → Bool) (at : ℕ) → p at ≡ false → (bytes : List ℕ) → list_all p bytes ≡ true → lacks at bytes ≡ true
test_lacks p at out [] is = refl
test_lacks p at out (b ∷ bytes) is = both_true (differs p at out b (left_of (p b) (list_all p bytes) is)) (test_lacks p at out bytes (right_of (p b) (list_all p bytes) is))

pub word_lacks : (at : ℕ) → is_word_byte at ≡ false → (word : List ℕ) → is_word word ≡ true → lacks at word ≡ true
word_lacks at out word is = test_lacks is_word_byte at out word (right_of (not (length word == 0)) (list_all is_word_byte word) is)

pub lacks_both : (at : ℕ) (front back : List ℕ) → lacks at front ≡ true → lacks at back ≡ true → lacks at (front ++ back) ≡ true
lacks_both at front back one other = list_all-append (λ b. not (b == at)) front back ∙ both_true one other

-- ---- pieces

pub whole : (at : ℕ) (bytes : List ℕ) → lacks at bytes ≡ true → pieces at bytes ≡ bytes ∷ []
whole at [] none = refl
whole at (b ∷ bytes) none =
    let other : (b == at) ≡ false = not-true (b == at) (left_of (not (b == at)) (lacks at bytes) none) in
    let rest : pieces at bytes ≡ bytes ∷ [] = whole at bytes (right_of (not (b == at)) (lacks at bytes) none) in
    rw other (rw rest refl)

pub cut : (at : ℕ) (front rest : List ℕ) → lacks at front ≡ true → pieces at (front ++ at ∷ rest) ≡ front ∷ pieces at rest
cut at [] rest none = rw (eq-eqb at at refl) refl
cut at (b ∷ front) rest none =
    let other : (b == at) ≡ false = not-true (b == at) (left_of (not (b == at)) (lacks at front) none) in
    let later : pieces at (front ++ at ∷ rest) ≡ front ∷ pieces at rest = cut at front rest (right_of (not (b == at)) (lacks at front) none) in
    rw other (rw later refl)

-- a piece that ends with one more byte
pub cut_behind : (at : ℕ) (front : List ℕ) (b : ℕ) (rest : List ℕ) → lacks at (front ++ b ∷ []) ≡ true → pieces at (front ++ b ∷ at ∷ rest) ≡ (front ++ b ∷ []) ∷ pieces at rest
cut_behind at front b rest none =
    let same : front ++ b ∷ at ∷ rest ≡ (front ++ b ∷ []) ++ at ∷ rest = sym (append_assoc front (b ∷ []) (at ∷ rest)) in
    rw same (cut at (front ++ b ∷ []) rest none)

pub with_last : (at : ℕ) (front : List ℕ) → without_last at (front ++ at ∷ []) ≡ Some front
with_last at [] = rw (eq-eqb at at refl) refl
with_last at (b ∷ []) = rw (eq-eqb at at refl) refl
with_last at (b ∷ c ∷ front) = ap (option_map (λ rest. b ∷ rest)) (with_last at (c ∷ front))

-- ---- numbers in decimal

small : (d : ℕ) → d < 10 → is_digit (digit_glyph false d) ≡ true
small d few = rw (lt-ltb d 10 few) (both_true (le-leb 48 (48 + d) (omega arith)) (le-leb (48 + d) 57 (omega arith)))

glyph : (n : ℕ) → is_digit (digit_glyph false (n % 10)) ≡ true
glyph n = small (n % 10) (omega arith)

either : (p : List ℕ → Bool) (t : Bool) (xs ys : List ℕ) → p xs ≡ true → p ys ≡ true → p (if t then xs else ys) ≡ true
either p true xs ys one other = one
either p false xs ys one other = other

digits_are : (k n : ℕ) (more : List ℕ) → list_all is_digit more ≡ true → list_all is_digit (digits_onto k 10 false n more) ≡ true
digits_are zero n more is = is
digits_are (suc k) n more is =
    let longer : list_all is_digit (digit_glyph false (n % 10) ∷ more) ≡ true = both_true (glyph n) is in
    either (list_all is_digit) (n / 10 == 0) (digit_glyph false (n % 10) ∷ more) (digits_onto k 10 false (n / 10) (digit_glyph false (n % 10) ∷ more)) longer (digits_are k (n / 10) (digit_glyph false (n % 10) ∷ more) longer)

abbrev is_some : List ℕ → Bool
is_some xs = not (length xs == 0)

one_some : (b : ℕ) (more : List ℕ) → is_some (b ∷ more) ≡ true
one_some b more = rw (eqb-suc-zero (length more)) refl

digits_some : (k n b : ℕ) (more : List ℕ) → is_some (digits_onto k 10 false n (b ∷ more)) ≡ true
digits_some zero n b more = one_some b more
digits_some (suc k) n b more =
    either is_some (n / 10 == 0) (digit_glyph false (n % 10) ∷ b ∷ more) (digits_onto k 10 false (n / 10) (digit_glyph false (n % 10) ∷ b ∷ more)) (one_some (digit_glyph false (n % 10)) (b ∷ more)) (digits_some k (n / 10) (digit_glyph false (n % 10)) (b ∷ more))

first_some : (k n : ℕ) → is_some (digits_onto (suc k) 10 false n []) ≡ true
first_some k n =
    either is_some (n / 10 == 0) (digit_glyph false (n % 10) ∷ []) (digits_onto k 10 false (n / 10) (digit_glyph false (n % 10) ∷ [])) (one_some (digit_glyph false (n % 10)) []) (digits_some k (n / 10) (digit_glyph false (n % 10)) [])

pub numeral : (n : ℕ) → is_numeral (decimal n) ≡ true
unfolding digits
numeral n = both_true (first_some 63 n) (digits_are 64 n [] refl)

pub decimal_lacks : (at : ℕ) → is_digit at ≡ false → (n : ℕ) → lacks at (decimal n) ≡ true
decimal_lacks at out n = test_lacks is_digit at out (decimal n) (right_of (not (length (decimal n) == 0)) (list_all is_digit (decimal n)) (numeral n))
