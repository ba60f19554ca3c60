-- That the lexer takes the longest token.
use Rattle.std.proofs.Common.{◌≡◌, ℕ, zero, suc, ◌+◌, ◌<◌, ◌≤◌, Bool, true, false, not, ◌&&◌, ◌||◌, ◌==◌, cond, nat_le, nat_lt, List, [], ◌∷◌, length, take, drop, take_while, codes, Option, Some, None, refl, ap, sym, ◌∙◌, subst, arith, drop-drop}
use Rattle.std.specs.List.{list_all, prefix_len}
use Rattle.std.specs.Option.{option_map, option_or, unwrap_or}
use Rattle.std.specs.Str.{bytes_eq}
use Rattle.std.proofs.lemmas.Bool.{leb-true, leb-false, ltb-true, eqb-true}
use Rattle.std.proofs.lemmas.List.{length-take, length-take-le}
use Rattle.std.proofs.lemmas.List.Sums.{take_while-cons}
use Rattle.std.proofs.lemmas.List.Folds.{length-prefix_len}
use Rattle.std.specs.Cmp.Lexicographic.{same_text}
use Rattle.smv_core.specs.declared.token.TokenKind.{TokenKind}
use Rattle.smv_core.specs.declared.token.TokenKind.TheVariants.{Number}
use Rattle.smv_lex.specs.declared.front.Front.{Front}
use Rattle.smv_lex.specs.declared.front.Front.TheVariants.{Passed, Whole, Broken}
use Rattle.smv_core.specs.Spellings.{signs, spelled_in}
use Rattle.smv_lex.specs.Lexing.{is_letter, is_digit, is_name_byte, begins, closing, word_kind, word_front, number_of, number_front, sign_front, comment_front, front_of}
use Rattle.smv_lex.specs.Longest.{is_word, is_digits, kind_of, NoLonger, IsLongest, HasNoToken, HasGreatNumber, HasLongWord, HasOpenComment}
use Rattle.smv_lex.proofs.Fronts.{front-cases}

clash : {A : Type 0} {r : Bool} → r ≡ true → r ≡ false → A
clash e f = absurd (let same : true ≡ false = sym e ∙ f in cc)

-- ---- what is right at the front of a text

abbrev pub FaultOf : List ℕ → ℕ → Type 0
FaultOf text number = (number ≡ 1 → HasNoToken text) × (number ≡ 2 → HasGreatNumber text) × (number ≡ 3 → HasLongWord text) × (number ≡ 4 → HasOpenComment text)

unfoldable Right : List ℕ → Front → Type 0
Right text (Passed n) = Unit {0}
Right text (Whole kind n) = IsLongest text n kind
Right text (Broken number) = FaultOf text number

passed-right : (text : List ℕ) (n : ℕ) → Right text (Passed n)
unfolding Right
passed-right text n = tt

whole-right : (text : List ℕ) (kind : TokenKind) (n : ℕ) → IsLongest text n kind → Right text (Whole kind n)
unfolding Right
whole-right text kind n longest = longest

broken-right : (text : List ℕ) (number : ℕ) → (number ≡ 1 → HasNoToken text) → (number ≡ 2 → HasGreatNumber text) → (number ≡ 3 → HasLongWord text) → (number ≡ 4 → HasOpenComment text) →
    Right text (Broken number)
unfolding Right
broken-right text number one two three four = (one, two, three, four)

-- ---- fronts of which all bytes pass

pub all-taken : (p : ℕ → Bool) (bytes : List ℕ) → list_all p (take_while p bytes) ≡ true
all-taken p [] = refl
all-taken p (b ∷ bytes) = rw (take_while-cons p b bytes) (by (p b) refl (all-taken p bytes))
  where
    by : (r : Bool) → p b ≡ r → list_all p (take_while p bytes) ≡ true → list_all p (cond r (b ∷ take_while p bytes) []) ≡ true
    by true e more = rw (e, more) refl
    by false e more = refl

cons-taken : (p : ℕ → Bool) (b : ℕ) (bytes : List ℕ) → p b ≡ true → take_while p (b ∷ bytes) ≡ b ∷ take_while p bytes
cons-taken p b bytes passes = take_while-cons p b bytes ∙ ap (λ r. cond r (b ∷ take_while p bytes) []) passes

pub taken : (p : ℕ → Bool) (bytes : List ℕ) → take (length (take_while p bytes)) bytes ≡ take_while p bytes
taken p bytes = ap (λ n. take n bytes) (length-prefix_len p bytes)

-- a front of which all bytes pass is no longer than the one that is taken
within-taken : (p : ℕ → Bool) (m : ℕ) (bytes : List ℕ) → m ≤ length bytes → list_all p (take m bytes) ≡ true → m ≤ prefix_len p bytes
within-taken p zero bytes within passes = omega arith
within-taken p (suc m) [] within passes = absurd (omega arith)
within-taken p (suc m) (b ∷ bytes) within passes = by (p b) refl passes (within-taken p m bytes (omega arith))
  where
    by : (r : Bool) → p b ≡ r → (r && list_all p (take m bytes)) ≡ true → (list_all p (take m bytes) ≡ true → m ≤ prefix_len p bytes) → suc m ≤ cond r (1 + prefix_len p bytes) 0
    by true e all more = omega (arith, more all)
    by false e all more = absurd cc

-- ---- what is no token

-- a letter is no digit
letter-no-digit : (b : ℕ) → is_letter b ≡ true → is_digit b ≡ false
letter-no-digit b letter = by (is_digit b) refl
  where
    high : (r s t u v : Bool) → nat_le 65 b ≡ r → nat_le 97 b ≡ t → (b == 95) ≡ v → (r && s || t && u || v) ≡ true → 65 ≤ b
    high true s t u v e f g h = leb-true 65 b e
    high false s true u v e f g h = let k = leb-true 97 b f in omega arith
    high false s false u true e f g h = let k = eqb-true b 95 g in omega arith
    high false s false u false e f g h = absurd cc

    low : (r s : Bool) → nat_le b 57 ≡ s → (r && s) ≡ true → b ≤ 57
    low true true e h = leb-true b 57 e
    low true false e h = absurd cc
    low false s e h = absurd cc

    by : (r : Bool) → is_digit b ≡ r → r ≡ false
    by false e = refl
    by true e =
        absurd (let k = high (nat_le 65 b) (nat_le b 90) (nat_le 97 b) (nat_le b 122) (b == 95) refl refl refl letter in let l = low (nat_le 48 b) (nat_le b 57) refl e in omega arith)

-- bytes that are unlike all spellings of a list are not in it
unspelled : (good : List ℕ → Bool) (bytes : List ℕ) → good bytes ≡ false → (table : List (TokenKind × List ℕ)) → list_all (λ entry. good entry.1) table ≡ true →
    spelled_in table bytes ≡ None
unspelled good bytes bad [] all = refl
unspelled good bytes bad (entry ∷ more) all = by (bytes_eq entry.1 bytes) refl (good entry.1) refl all (unspelled good bytes bad more)
  where
    by : (same : Bool) → bytes_eq entry.1 bytes ≡ same → (r : Bool) → good entry.1 ≡ r → (r && list_all (λ entry. good entry.1) more) ≡ true →
        (list_all (λ entry. good entry.1) more ≡ true → spelled_in more bytes ≡ None) → cond same (Some entry.0) (spelled_in more bytes) ≡ None
    by same e false f h rest = absurd cc
    by false e true f h rest = rest h
    by true e true f h rest = let is = same_text entry.1 bytes (sym e) in clash f (ap good is ∙ bad)

-- a sign begins with no letter and no digit, and has at most three bytes
abbrev sign_like : List ℕ → Bool
sign_like [] = false
sign_like (b ∷ bytes) = not (is_letter b || is_digit b) && nat_le (length (b ∷ bytes)) 3

no-sign : (bytes : List ℕ) → sign_like bytes ≡ false → spelled_in signs bytes ≡ None
no-sign bytes bad = unspelled sign_like bytes bad signs refl

-- ---- what bytes are as one token

kind_of-word : (bytes : List ℕ) → is_word bytes ≡ true → kind_of bytes ≡ Some (word_kind bytes)
unfolding kind_of
kind_of-word bytes word = rw word refl

kind_of-number : (bytes : List ℕ) → is_word bytes ≡ false → is_digits bytes ≡ true → kind_of bytes ≡ Some (Number (number_of bytes))
unfolding kind_of
kind_of-number bytes word digits = rw (word, digits) refl

kind_of-sign : (bytes : List ℕ) → is_word bytes ≡ false → is_digits bytes ≡ false → kind_of bytes ≡ spelled_in signs bytes
unfolding kind_of
kind_of-sign bytes word digits = rw (word, digits) refl

-- ---- words

name-byte : (b : ℕ) → is_letter b ≡ true → is_name_byte b ≡ true
name-byte b letter = rw letter refl

pub taken-word : (b : ℕ) (bytes : List ℕ) → is_letter b ≡ true → is_word (take_while is_name_byte (b ∷ bytes)) ≡ true
taken-word b bytes letter = ap is_word (cons-taken is_name_byte b bytes (name-byte b letter)) ∙ rw (letter, all-taken is_name_byte bytes) refl

not-longer-word : (b k : ℕ) (bytes : List ℕ) → is_letter b ≡ true → length (take_while is_name_byte (b ∷ bytes)) < suc k → suc k ≤ length (b ∷ bytes) →
    (r : Bool) → list_all is_name_byte (take k bytes) ≡ r → is_word (b ∷ take k bytes) ≡ false
not-longer-word b k bytes letter more within false e = rw (letter, e) refl
not-longer-word b k bytes letter more within true e =
    let n = within-taken is_name_byte k bytes (omega (arith, within)) e in
    let is = length-prefix_len is_name_byte (b ∷ bytes) in
    let one : prefix_len is_name_byte (b ∷ bytes) ≡ 1 + prefix_len is_name_byte bytes = rw (name-byte b letter) refl in
    absurd (omega (arith, n, is, one, more))

no-longer-word : (b : ℕ) (bytes : List ℕ) → is_letter b ≡ true → NoLonger (b ∷ bytes) (length (take_while is_name_byte (b ∷ bytes)))
no-longer-word b bytes letter zero more within = absurd (omega (arith, more))
no-longer-word b bytes letter (suc k) more within =
    kind_of-sign (b ∷ take k bytes) (not-longer-word b k bytes letter more within (list_all is_name_byte (take k bytes)) refl) (rw (letter-no-digit b letter) refl)
    ∙ no-sign (b ∷ take k bytes) (rw letter refl)

pub longest-word : (b : ℕ) (bytes : List ℕ) → is_letter b ≡ true →
    IsLongest (b ∷ bytes) (length (take_while is_name_byte (b ∷ bytes))) (word_kind (take_while is_name_byte (b ∷ bytes)))
longest-word b bytes letter =
    (ap kind_of (taken is_name_byte (b ∷ bytes)) ∙ kind_of-word (take_while is_name_byte (b ∷ bytes)) (taken-word b bytes letter), no-longer-word b bytes letter)

-- ---- numbers

not-longer-digits : (b k : ℕ) (bytes : List ℕ) → is_digit b ≡ true → length (take_while is_digit (b ∷ bytes)) < suc k → suc k ≤ length (b ∷ bytes) →
    (r : Bool) → list_all is_digit (take k bytes) ≡ r → is_digits (b ∷ take k bytes) ≡ false
not-longer-digits b k bytes digit more within false e = rw (digit, e) refl
not-longer-digits b k bytes digit more within true e =
    let n = within-taken is_digit k bytes (omega (arith, within)) e in
    let is = length-prefix_len is_digit (b ∷ bytes) in
    let one : prefix_len is_digit (b ∷ bytes) ≡ 1 + prefix_len is_digit bytes = rw digit refl in
    absurd (omega (arith, n, is, one, more))

no-longer-digits : (b : ℕ) (bytes : List ℕ) → is_letter b ≡ false → is_digit b ≡ true → NoLonger (b ∷ bytes) (length (take_while is_digit (b ∷ bytes)))
no-longer-digits b bytes letter digit zero more within = absurd (omega (arith, more))
no-longer-digits b bytes letter digit (suc k) more within =
    kind_of-sign (b ∷ take k bytes) (rw letter refl) (not-longer-digits b k bytes digit more within (list_all is_digit (take k bytes)) refl)
    ∙ no-sign (b ∷ take k bytes) (rw (letter, digit) refl)

pub longest-number : (b : ℕ) (bytes : List ℕ) → is_letter b ≡ false → is_digit b ≡ true →
    IsLongest (b ∷ bytes) (length (take_while is_digit (b ∷ bytes))) (Number (number_of (take_while is_digit (b ∷ bytes))))
longest-number b bytes letter digit =
    let cons = cons-taken is_digit b bytes digit in
    let word : is_word (take_while is_digit (b ∷ bytes)) ≡ false = ap is_word cons ∙ rw letter refl in
    let digits : is_digits (take_while is_digit (b ∷ bytes)) ≡ true = ap is_digits cons ∙ rw (digit, all-taken is_digit bytes) refl in
    (ap kind_of (taken is_digit (b ∷ bytes)) ∙ kind_of-number (take_while is_digit (b ∷ bytes)) word digits, no-longer-digits b bytes letter digit)

-- ---- signs

module _ (b : ℕ) (bytes : List ℕ) (letter : is_letter b ≡ false) (digit : is_digit b ≡ false) where
  as-sign : (k : ℕ) → kind_of (take (suc k) (b ∷ bytes)) ≡ spelled_in signs (take (suc k) (b ∷ bytes))
  as-sign k = kind_of-sign (b ∷ take k bytes) (rw letter refl) (rw digit refl)

  -- no sign has more than three bytes
  above-three : (k : ℕ) → 3 < suc k → suc k ≤ length (b ∷ bytes) → spelled_in signs (take (suc k) (b ∷ bytes)) ≡ None
  above-three k more within = no-sign (b ∷ take k bytes) (by (nat_le (suc (length (take k bytes))) 3) refl)
    where
      by : (r : Bool) → nat_le (suc (length (take k bytes))) 3 ≡ r → (not (is_letter b || is_digit b) && r) ≡ false
      by false e = rw (letter, digit) refl
      by true e = absurd (let few = leb-true (suc (length (take k bytes))) 3 e in let n = length-take-le k bytes (omega (arith, within)) in omega (arith, few, n, more))

  -- no sign of more than n bytes, where none of at most three is longer
  pub no-longer-sign : (n : ℕ) → ((m : ℕ) → n < m → m ≤ length (b ∷ bytes) → m ≤ 3 → spelled_in signs (take m (b ∷ bytes)) ≡ None) → NoLonger (b ∷ bytes) n
  no-longer-sign n few zero more within = absurd (omega (arith, more))
  no-longer-sign n few (suc k) more within = as-sign k ∙ by (nat_le (suc k) 3) refl
    where
      by : (r : Bool) → nat_le (suc k) 3 ≡ r → spelled_in signs (take (suc k) (b ∷ bytes)) ≡ None
      by true e = few (suc k) more within (leb-true (suc k) 3 e)
      by false e = above-three k (let great = leb-false (suc k) 3 e in omega (arith, great)) within

  pub front-of : (k : ℕ) → take (length (take (suc k) (b ∷ bytes))) (b ∷ bytes) ≡ take (suc k) (b ∷ bytes)
  front-of k = again (suc k) (b ∷ bytes)
    where
      again : (k : ℕ) (bytes : List ℕ) → take (length (take k bytes)) bytes ≡ take k bytes
      again zero bytes = refl
      again (suc k) [] = refl
      again (suc k) (b ∷ bytes) = ap (λ l. b ∷ l) (again k bytes)

  abbrev text : List ℕ
  text = b ∷ bytes

  abbrev NoSign : ℕ → Type 0
  NoSign m = spelled_in signs (take m text) ≡ None

  of-three : (m : ℕ) → 0 < m → m ≤ 3 → (m ≡ 3 → NoSign 3) → (m ≡ 2 → NoSign 2) → (m ≡ 1 → NoSign 1) → NoSign m
  of-three zero some few three two one = absurd (omega (arith, some))
  of-three (suc zero) some few three two one = one refl
  of-three (suc (suc zero)) some few three two one = two refl
  of-three (suc (suc (suc zero))) some few three two one = three refl
  of-three (suc (suc (suc (suc m)))) some few three two one = absurd (omega (arith, few))

  is-sign : (k : ℕ) (kind : TokenKind) → spelled_in signs (take (suc k) text) ≡ Some kind → kind_of (take (length (take (suc k) text)) text) ≡ Some kind
  is-sign k kind is = ap kind_of (front-of k) ∙ as-sign k ∙ is

  sign-right : Right text (sign_front text)
  unfolding sign_front
  sign-right = any (spelled_in signs (take 3 text)) (spelled_in signs (take 2 text)) (spelled_in signs (take 1 text)) refl refl refl
    where
      any : (three two one : Option TokenKind) → spelled_in signs (take 3 text) ≡ three → spelled_in signs (take 2 text) ≡ two → spelled_in signs (take 1 text) ≡ one →
          Right text (unwrap_or (option_or (option_map (λ kind. Whole kind (length (take 3 text))) three)
          (option_or (option_map (λ kind. Whole kind (length (take 2 text))) two) (option_map (λ kind. Whole kind (length (take 1 text))) one))) (Broken 1))
      any (Some kind) two one e f g =
          whole-right text kind (length (take 3 text)) (is-sign 2 kind e, no-longer-sign (length (take 3 text)) (λ m more within few. absurd (omega (arith, more, within, few, length-take 3 text))))
      any None (Some kind) one e f g =
          whole-right text kind (length (take 2 text)) (
            is-sign 1 kind f,
            no-longer-sign (length (take 2 text)) (λ m more within few.
                of-three m (omega (arith, more)) few (λ is. e) (λ is. absurd (omega (arith, more, within, is, length-take 2 text))) (λ is. absurd (omega (arith, more, within, is, length-take 2 text)))),
          )
      any None None (Some kind) e f g =
          whole-right text kind (length (take 1 text)) (
            is-sign 0 kind g,
            no-longer-sign (length (take 1 text)) (λ m more within few.
                of-three m (omega (arith, more)) few (λ is. e) (λ is. f) (λ is. absurd (omega (arith, more, within, is, length-take 1 text)))),
          )
      any None None None e f g =
          broken-right text 1 (λ is. no-longer-sign 0 (λ m more within few. of-three m more few (λ is. e) (λ is. f) (λ is. g))) (λ is. absurd (omega arith)) (λ is. absurd (omega arith)) (λ is. absurd (omega arith))

-- ---- comments

-- where no comment ends, `*/` stands nowhere
unclosed : (bytes : List ℕ) → closing bytes ≡ None → (k : ℕ) → begins (drop k bytes) (codes "*/") ≡ false
unclosed [] e zero = refl
unclosed [] e (suc k) = refl
unclosed (b ∷ bytes) e k = by (begins (b ∷ bytes) (codes "*/")) refl (closing bytes) (unclosed bytes) e k
  where
    by : (r : Bool) → begins (b ∷ bytes) (codes "*/") ≡ r → (end : Option ℕ) → (end ≡ None → (k : ℕ) → begins (drop k bytes) (codes "*/") ≡ false) →
        cond r (Some 2) (option_map suc end) ≡ None → (k : ℕ) → begins (drop k (b ∷ bytes)) (codes "*/") ≡ false
    by true is end more e k = absurd cc
    by false is (Some n) more e k = absurd cc
    by false is None more e zero = is
    by false is None more e (suc k) = more refl k

comment-right : (text : List ℕ) → begins text (codes "/*") ≡ true → Right text (comment_front (closing (drop 2 text)))
comment-right text opened = by (closing (drop 2 text)) refl
  where
    by : (end : Option ℕ) → closing (drop 2 text) ≡ end → Right text (comment_front end)
    by (Some n) e = passed-right text (2 + n)
    by None e =
        broken-right text 4 (λ is. absurd (omega arith)) (λ is. absurd (omega arith)) (λ is. absurd (omega arith))
        (λ is. (opened, λ k. ap (λ l. begins l (codes "*/")) (sym (drop-drop k 2 text)) ∙ unclosed (drop 2 text) e k))

-- ---- all together

word-right : (b : ℕ) (bytes : List ℕ) → is_letter b ≡ true → Right (b ∷ bytes) (word_front (take_while is_name_byte (b ∷ bytes)))
unfolding word_front
word-right b bytes letter = by (nat_lt 64 (length (take_while is_name_byte (b ∷ bytes)))) refl
  where
    by : (long : Bool) → nat_lt 64 (length (take_while is_name_byte (b ∷ bytes))) ≡ long →
        Right (b ∷ bytes) (cond long (Broken 3) (Whole (word_kind (take_while is_name_byte (b ∷ bytes))) (length (take_while is_name_byte (b ∷ bytes)))))
    by false e = whole-right (b ∷ bytes) _ _ (longest-word b bytes letter)
    by true e =
        broken-right (b ∷ bytes) 3 (λ is. absurd (omega arith)) (λ is. absurd (omega arith))
        (λ is. (
          length (take_while is_name_byte (b ∷ bytes)),
          word_kind (take_while is_name_byte (b ∷ bytes)),
          longest-word b bytes letter,
          ap is_word (taken is_name_byte (b ∷ bytes)) ∙ taken-word b bytes letter,
          ltb-true 64 _ e,
        )) (λ is. absurd (omega arith))

number-right : (b : ℕ) (bytes : List ℕ) → is_letter b ≡ false → is_digit b ≡ true → Right (b ∷ bytes) (number_front (take_while is_digit (b ∷ bytes)))
unfolding number_front
number-right b bytes letter digit = by (nat_lt 511 (number_of (take_while is_digit (b ∷ bytes)))) refl
  where
    by : (great : Bool) → nat_lt 511 (number_of (take_while is_digit (b ∷ bytes))) ≡ great →
        Right (b ∷ bytes) (cond great (Broken 2) (Whole (Number (number_of (take_while is_digit (b ∷ bytes)))) (length (take_while is_digit (b ∷ bytes)))))
    by false e = whole-right (b ∷ bytes) _ _ (longest-number b bytes letter digit)
    by true e =
        broken-right (b ∷ bytes) 2 (λ is. absurd (omega arith))
        (λ is. (length (take_while is_digit (b ∷ bytes)), number_of (take_while is_digit (b ∷ bytes)), longest-number b bytes letter digit, ltb-true 511 _ e))
        (λ is. absurd (omega arith)) (λ is. absurd (omega arith))

front-right : (text : List ℕ) → Right text (front_of text)
unfolding front_of
front-right [] = passed-right [] 0
front-right (b ∷ bytes) =
    front-cases (Right (b ∷ bytes)) b bytes (λ e. passed-right (b ∷ bytes) 1) (λ black e. word-right b bytes e) (λ e f. number-right b bytes e f) (λ black e. passed-right (b ∷ bytes) _)
    (λ e. comment-right (b ∷ bytes) e) (λ e f. sign-right b bytes e f)

pub longest-token : (text : List ℕ) (kind : TokenKind) (n : ℕ) → front_of text ≡ Whole kind n → IsLongest text n kind
unfolding Right
longest-token text kind n is = subst (Right text) is (front-right text)

pub fault-right : (text : List ℕ) (number : ℕ) → front_of text ≡ Broken number → FaultOf text number
unfolding Right
fault-right text number is = subst (Right text) is (front-right text)
