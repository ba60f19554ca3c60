-- What stands at the front where a token is written and a blank behind it.
use Rattle.std.proofs.Common.{◌≡◌, ℕ, ◌<◌, ◌≤◌, Bool, true, false, ◌||◌, ◌&&◌, ◌==◌, cond, nat_le, List, [], ◌∷◌, ◌++◌, length, map, get_or, take_while, None, refl, ap, sym, ◌∙◌, arith}
use Rattle.std.specs.List.{list_all, range_with_len}
use Rattle.std.specs.Fmt.{digits}
use Rattle.std.proofs.lemmas.Bool.{leb-true, eqb-true, le-ltb}
use Rattle.std.proofs.lemmas.List.Sums.{take_while-cons}
use Rattle.std.proofs.lemmas.List.FromFn.{get_or-map-range_with_len}
use Rattle.smv_core.specs.declared.token.TokenKind.{TokenKind}
use Rattle.smv_core.specs.declared.token.TokenKind.TheVariants.{Ident, Number, Sign, Reserved}
use Rattle.smv_lex.specs.declared.front.Front.{Front}
use Rattle.smv_lex.specs.declared.front.Front.TheVariants.{Passed, Whole}
use Rattle.smv_core.specs.Spellings.{reserved_words, spelled_in}
use Rattle.smv_lex.specs.Lexing.{is_blank, is_letter, is_name_byte, word_kind, word_front, number_front, sign_front, front_of}
use Rattle.smv_lex.specs.Longest.{is_word}
use Rattle.smv_print.specs.Written.{bytes_of}
use Rattle.law_print_and_parse.specs.Readable.{IsReadable}

-- the front where a token is written and this blank behind it
abbrev pub written_front : ℕ → TokenKind → List ℕ → Front
written_front blank k rest = front_of (bytes_of k ++ blank ∷ rest)

-- it is the token, whatever comes behind
abbrev pub whole : TokenKind → List ℕ → Front
whole k rest = Whole k (length (bytes_of k))

-- the tokens of a kind below n that are written before this blank stand at the front
abbrev Stand : ℕ → (ℕ → TokenKind) → ℕ → Type 0
Stand blank kind n = map (λ i. written_front blank (kind i)) (range_with_len 0 n) ≡ map (λ i. whole (kind i)) (range_with_len 0 n)

one-of-them : (blank : ℕ) (kind : ℕ → TokenKind) (n i : ℕ) → Stand blank kind n → i < n → (rest : List ℕ) → written_front blank (kind i) rest ≡ whole (kind i) rest
one-of-them blank kind n i same below rest =
    let f = written_front blank in
    let is : f (kind i) ≡ whole (kind i) =
    sym (get_or-map-range_with_len (λ i. f (kind i)) 0 n i i whole_none below (omega arith)) ∙ ap (λ l. get_or l i whole_none) same
    ∙ get_or-map-range_with_len (λ i. whole (kind i)) 0 n i i whole_none below (omega arith)
    in
    ap (λ front. front rest) is
  where
    whole_none : List ℕ → Front
    whole_none rest = Passed 0

-- ---- signs, reserved readable and numbers: each is tried

signs-before-blank : Stand 32 Sign 27
unfolding front_of sign_front
signs-before-blank = refl

signs-before-line : Stand 10 Sign 27
unfolding front_of sign_front
signs-before-line = refl

words-before-blank : Stand 32 Reserved 33
unfolding front_of word_front word_kind
words-before-blank = refl

words-before-line : Stand 10 Reserved 33
unfolding front_of word_front word_kind
words-before-line = refl

numbers-before-blank : Stand 32 Number 512
unfolding front_of number_front digits
numbers-before-blank = refl

numbers-before-line : Stand 10 Number 512
unfolding front_of number_front digits
numbers-before-line = refl

-- ---- names

-- a letter is no blank
letter-no-blank : (b : ℕ) → is_letter b ≡ true → is_blank b ≡ false
letter-no-blank b letter = by (is_blank b) refl
  where
    high : (r s t u v : Bool) → nat_le 65 b ≡ r → nat_le 97 b ≡ t → (b == 95) ≡ v → (r && s || t && u || v) ≡ true → 65 ≤ b
    high true s t u v e f g h = leb-true 65 b e
    high false s true u v e f g h = let k = leb-true 97 b f in omega arith
    high false s false u true e f g h = let k = eqb-true b 95 g in omega arith
    high false s false u false e f g h = absurd cc

    low : (r s t u : Bool) → (b == 9) ≡ r → (b == 10) ≡ s → (b == 13) ≡ t → (b == 32) ≡ u → (r || s || t || u) ≡ true → b ≤ 32
    low true s t u e f g h is = let k = eqb-true b 9 e in omega arith
    low false true t u e f g h is = let k = eqb-true b 10 f in omega arith
    low false false true u e f g h is = let k = eqb-true b 13 g in omega arith
    low false false false true e f g h is = let k = eqb-true b 32 h in omega arith
    low false false false false e f g h is = absurd cc

    by : (r : Bool) → is_blank b ≡ r → r ≡ false
    by false e = refl
    by true e =
        absurd (let k = high (nat_le 65 b) (nat_le b 90) (nat_le 97 b) (nat_le b 122) (b == 95) refl refl refl letter in let l = low (b == 9) (b == 10) (b == 13) (b == 32) refl refl refl refl e in omega arith)

-- what passes is taken up to the first that does not
taken-all : (p : ℕ → Bool) (bytes : List ℕ) (b : ℕ) (rest : List ℕ) → list_all p bytes ≡ true → p b ≡ false → take_while p (bytes ++ b ∷ rest) ≡ bytes
taken-all p [] b rest all stops = take_while-cons p b rest ∙ ap (λ r. cond r (b ∷ take_while p rest) []) stops
taken-all p (a ∷ bytes) b rest all stops = take_while-cons p a (bytes ++ b ∷ rest) ∙ by (p a) all (taken-all p bytes b rest)
  where
    by : (r : Bool) → (r && list_all p bytes) ≡ true → (list_all p bytes ≡ true → p b ≡ false → take_while p (bytes ++ b ∷ rest) ≡ bytes) →
        cond r (a ∷ take_while p (bytes ++ b ∷ rest)) [] ≡ a ∷ bytes
    by true more taken = ap (λ l. a ∷ l) (taken more stops)
    by false more taken = absurd cc

-- a word of letters, digits and `_` is taken as a whole
word-taken : (b : ℕ) (bytes : List ℕ) → is_word (b ∷ bytes) ≡ true → (is_letter b ≡ true) × (list_all is_name_byte bytes ≡ true)
word-taken b bytes word = by (is_letter b) word
  where
    by : (r : Bool) → (r && list_all is_name_byte bytes) ≡ true → (r ≡ true) × (list_all is_name_byte bytes ≡ true)
    by true more = (refl, more)
    by false more = absurd cc

name-kind : (bytes : List ℕ) → length bytes ≤ 64 → spelled_in reserved_words bytes ≡ None → word_front bytes ≡ Whole (Ident bytes) (length bytes)
unfolding word_front word_kind
name-kind bytes short free = let few = le-ltb 64 (length bytes) short in rw (few, free) refl

front-word : (b : ℕ) (bytes : List ℕ) → is_blank b ≡ false → is_letter b ≡ true → front_of (b ∷ bytes) ≡ word_front (take_while is_name_byte (b ∷ bytes))
unfolding front_of
front-word b bytes black letter = second (is_blank b) (is_letter b) _ _ _ black letter
  where
    second : (r s : Bool) (x y z : Front) → r ≡ false → s ≡ true → cond r x (cond s y z) ≡ y
    second false true x y z e f = refl
    second false false x y z e f = absurd cc
    second true s x y z e f = absurd cc

name-front : (bytes : List ℕ) (blank : ℕ) (rest : List ℕ) → is_word bytes ≡ true → length bytes ≤ 64 → spelled_in reserved_words bytes ≡ None → is_name_byte blank ≡ false →
    front_of (bytes ++ blank ∷ rest) ≡ Whole (Ident bytes) (length bytes)
name-front [] blank rest word short free stops = absurd cc
name-front (b ∷ bytes) blank rest word short free stops =
    let parts = word-taken b bytes word in
    let all : list_all is_name_byte (b ∷ bytes) ≡ true = rw (parts.0, parts.1) refl in
    front-word b (bytes ++ blank ∷ rest) (letter-no-blank b parts.0) parts.0
    ∙ ap word_front (taken-all is_name_byte (b ∷ bytes) blank rest all stops) ∙ name-kind (b ∷ bytes) short free

-- ---- all together

-- A token that is written with LF or a blank behind it stands at the front.
pub stands : (k : TokenKind) → IsReadable k → (rest : List ℕ) → (written_front 10 k rest ≡ whole k rest) × (written_front 32 k rest ≡ whole k rest)
stands (Ident bytes) readable rest = (name-front bytes 10 rest readable.0 readable.1 readable.2 refl, name-front bytes 32 rest readable.0 readable.1 readable.2 refl)
stands (Number value) readable rest =
    let below : value < 512 = omega arith in
    (one-of-them 10 Number 512 value numbers-before-line below rest, one-of-them 32 Number 512 value numbers-before-blank below rest)
stands (Sign i) readable rest = (one-of-them 10 Sign 27 i signs-before-line readable rest, one-of-them 32 Sign 27 i signs-before-blank readable rest)
stands (Reserved i) readable rest = (one-of-them 10 Reserved 33 i words-before-line readable rest, one-of-them 32 Reserved 33 i words-before-blank readable rest)
