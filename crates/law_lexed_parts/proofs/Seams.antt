-- What stands at the front is the same whatever stands behind a seam that goes through no token, blank or comment.
use Rattle.std.proofs.Common.{◌≡◌, ◌≤◌, ◌<◌, ◌-◌, ℕ, zero, suc, List, [], ◌∷◌, ◌++◌, length, take_while, drop, codes, Option, Some, None, Bool, true, false, ◌&&◌, ◌||◌, cond, nat_lt, nat_eq, refl, sym, ap, ◌∙◌, subst, arith}
use Rattle.std.specs.Option.{option_map, option_or, unwrap_or}
use Rattle.std.specs.Str.{bytes_eq}
use Rattle.std.proofs.lemmas.Bool.{eqb-true}
use Rattle.std.proofs.lemmas.List.Sums.{take_while-cons}
use Rattle.smv_core.specs.declared.token.TokenKind.{TokenKind}
use Rattle.smv_core.specs.declared.token.TokenKind.TheVariants.{Number}
use Rattle.smv_core.specs.Spellings.{signs, spelled_in}
use Rattle.smv_lex.specs.declared.front.Front.{Front}
use Rattle.smv_lex.specs.declared.front.Front.TheVariants.{Passed, Whole, Broken}
use Rattle.smv_lex.specs.Lexing.{is_blank, is_letter, is_digit, is_name_byte, is_in_line, number_of, begins, closing, word_kind, word_front, number_front, sign_of, sign_front, comment_front, front_of}
use Rattle.law_lists.proofs.Lists.{head_is}
use Rattle.law_lexed_parts.specs.Parts.{ByFront, IsCut, AreApart}
use Rattle.law_lexed_parts.proofs.Signs.{Differ, apart-names, apart-differ, no-sign, no-long_sign}

-- ---- bytes that pass a test

-- a run of bytes that ends with or before the first ones is the same where the next byte does not go together with the last of them
run-kept : (f : ℕ → Bool) → ((x : ℕ) → f x ≡ true → is_name_byte x ≡ true) → (a : ℕ) (s more other : List ℕ) → length (take_while f (a ∷ s ++ more)) ≤ suc (length s) → AreApart (a ∷ s) other →
    take_while f (a ∷ s ++ other) ≡ take_while f (a ∷ s ++ more)
run-kept f sub a [] more other le apart =
    take_while-cons f a other ∙ by_test (f a) refl (subst (λ l. length l ≤ 1) (take_while-cons f a more) le) ∙ sym (take_while-cons f a more)
  where
    none-taken : (xs : List ℕ) → length xs ≤ 0 → xs ≡ []
    none-taken [] h = refl
    none-taken (x ∷ xs) h = absurd (omega (arith, h))

    stopped : f a ≡ true → (o : List ℕ) → AreApart (a ∷ []) o → take_while f o ≡ []
    stopped e [] h = refl
    stopped e (c ∷ o) h = take_while-cons f c o ∙ by_next (f c) refl
      where
        clash : (t s : Bool) → t ≡ true → s ≡ true → (t && s) ≡ false → ⊥
        clash true true p q r = absurd (cc (r))
        clash false s p q r = absurd (cc (p))
        clash true false p q r = absurd (cc (q))

        by_next : (t : Bool) → f c ≡ t → cond t (c ∷ take_while f o) [] ≡ []
        by_next false q = refl
        by_next true q = absurd (clash (is_name_byte a) (is_name_byte c) (sub a e) (sub c q) (apart-names a c h))

    by_test : (t : Bool) → f a ≡ t → length (cond t (a ∷ take_while f more) []) ≤ 1 → cond t (a ∷ take_while f other) [] ≡ cond t (a ∷ take_while f more) []
    by_test false e h = refl
    by_test true e h = ap (λ l. a ∷ l) (stopped e other apart ∙ sym (none-taken (take_while f more) (omega (arith, h))))
run-kept f sub a (c ∷ s) more other le apart =
    take_while-cons f a (c ∷ s ++ other)
    ∙ by_test (f a) (subst (λ l. length l ≤ suc (suc (length s))) (take_while-cons f a (c ∷ s ++ more)) le) (λ low. run-kept f sub c s more other low apart)
    ∙ sym (take_while-cons f a (c ∷ s ++ more))
  where
    by_test : (t : Bool) → length (cond t (a ∷ take_while f (c ∷ s ++ more)) []) ≤ suc (suc (length s)) →
        (length (take_while f (c ∷ s ++ more)) ≤ suc (length s) → take_while f (c ∷ s ++ other) ≡ take_while f (c ∷ s ++ more)) →
        cond t (a ∷ take_while f (c ∷ s ++ other)) [] ≡ cond t (a ∷ take_while f (c ∷ s ++ more)) []
    by_test false h rest = refl
    by_test true h rest = ap (λ l. a ∷ l) (rest (omega (arith, h)))

-- one that ends before the last of them is the same anyway
pub inner-kept : (f : ℕ → Bool) (s more other : List ℕ) → length (take_while f (s ++ more)) < length s → take_while f (s ++ other) ≡ take_while f (s ++ more)
inner-kept f [] more other lt = absurd (omega (arith, lt))
inner-kept f (a ∷ s) more other lt =
    take_while-cons f a (s ++ other) ∙ by_test (f a) (subst (λ l. length l < suc (length s)) (take_while-cons f a (s ++ more)) lt) (λ low. inner-kept f s more other low) ∙ sym (take_while-cons f a (s ++ more))
  where
    by_test : (t : Bool) → length (cond t (a ∷ take_while f (s ++ more)) []) < suc (length s) → (length (take_while f (s ++ more)) < length s → take_while f (s ++ other) ≡ take_while f (s ++ more)) →
        cond t (a ∷ take_while f (s ++ other)) [] ≡ cond t (a ∷ take_while f (s ++ more)) []
    by_test false h rest = refl
    by_test true h rest = ap (λ l. a ∷ l) (rest (omega (arith, h)))

pub digit-names : (x : ℕ) → is_digit x ≡ true → is_name_byte x ≡ true
digit-names x e = by_test (is_letter x) (is_digit x) e
  where
    by_test : (t s : Bool) → s ≡ true → (t || s) ≡ true
    by_test true s h = refl
    by_test false s h = h

same-name : (x : ℕ) → is_name_byte x ≡ true → is_name_byte x ≡ true
same-name x e = e

-- a front of so many bytes, or more, or broken
abbrev pub Within : Front → ℕ → Type 0
Within f k = ByFront f (λ n. n ≤ k)

pub word-within : (word : List ℕ) (k : ℕ) → Within (word_front word) k → length word ≤ k
unfolding word_front
word-within word k h = by_test (nat_lt 64 (length word)) h
  where
    by_test : (t : Bool) → Within (cond t (Broken 3) (Whole (word_kind word) (length word))) k → length word ≤ k
    by_test true h = absurd h
    by_test false h = h

pub number-within : (digits : List ℕ) (k : ℕ) → Within (number_front digits) k → length digits ≤ k
unfolding number_front
number-within digits k h = by_test (nat_lt 511 (number_of digits)) h
  where
    by_test : (t : Bool) → Within (cond t (Broken 2) (Whole (Number (number_of digits)) (length digits))) k → length digits ≤ k
    by_test true h = absurd h
    by_test false h = h

-- ---- comments

closing-two : (xs : List ℕ) (k : ℕ) → closing xs ≡ Some k → 2 ≤ k
closing-two [] k e = absurd (cc)
closing-two (x ∷ xs) k e = by_test (begins (x ∷ xs) (codes "*/")) (closing xs) e (closing-two xs)
  where
    by_test : (t : Bool) (o : Option ℕ) → cond t (Some 2) (option_map suc o) ≡ Some k → ((m : ℕ) → o ≡ Some m → 2 ≤ m) → 2 ≤ k
    by_test true o q rest = subst (λ m. 2 ≤ m) (some-is q) (omega arith)
      where
        some-is : {m n : ℕ} → Some m ≡ Some n → m ≡ n
        some-is q = cc (q)
    by_test false None q rest = absurd (cc (q))
    by_test false (Some m) q rest = subst (λ n. 2 ≤ n) (some-is q) (let h = rest m refl in omega (arith, h))
      where
        some-is : {m n : ℕ} → Some m ≡ Some n → m ≡ n
        some-is q = cc (q)

closing-kept : (s more other : List ℕ) (k : ℕ) → closing (s ++ more) ≡ Some k → k ≤ length s → closing (s ++ other) ≡ Some k
closing-kept [] more other k e le = absurd (let h = closing-two more k e in omega (arith, h, le))
closing-kept (c ∷ []) more other k e le = absurd (let h = closing-two (c ∷ more) k e in omega (arith, h, le))
closing-kept (c ∷ d ∷ s) more other k e le = by_test (begins (c ∷ d ∷ s ++ more) (codes "*/")) (closing (d ∷ s ++ more)) refl e (λ m q low. closing-kept (d ∷ s) more other m q low)
  where
    by_test : (t : Bool) (o : Option ℕ) → closing (d ∷ s ++ more) ≡ o → cond t (Some 2) (option_map suc o) ≡ Some k →
        ((m : ℕ) → closing (d ∷ s ++ more) ≡ Some m → m ≤ suc (length s) → closing (d ∷ s ++ other) ≡ Some m) → cond t (Some 2) (option_map suc (closing (d ∷ s ++ other))) ≡ Some k
    by_test true o p q rest = q
    by_test false None p q rest = absurd (cc (q))
    by_test false (Some m) p q rest = let same : suc m ≡ k = cc (q) in ap (option_map suc) (rest m p (omega (arith, same, le))) ∙ q

-- ---- signs

base : ℕ → Front
base b = unwrap_or (sign_of (b ∷ [])) (Broken 1)

pub alone : (b : ℕ) → sign_front (b ∷ []) ≡ unwrap_or (sign_of (b ∷ [])) (Broken 1)
unfolding sign_front
alone b = by_sign (sign_of (b ∷ []))
  where
    by_sign : (o : Option Front) → unwrap_or (option_or o (option_or o o)) (Broken 1) ≡ unwrap_or o (Broken 1)
    by_sign None = refl
    by_sign (Some f) = refl

-- before a byte that does not go together with it a byte is a sign of its own
one-kept : (b : ℕ) (other : List ℕ) → AreApart (b ∷ []) other → sign_front (b ∷ other) ≡ unwrap_or (sign_of (b ∷ [])) (Broken 1)
unfolding sign_front
one-kept b [] h = alone b
one-kept b (c ∷ []) h = rw (no-sign b c [] (apart-differ b c h)) refl
one-kept b (c ∷ d ∷ rest) h = rw (no-sign b c (d ∷ []) (apart-differ b c h), no-sign b c [] (apart-differ b c h)) refl

-- and so it is where the sign has one byte
pub one-within : (b : ℕ) (more : List ℕ) → Within (sign_front (b ∷ more)) 1 → sign_front (b ∷ more) ≡ unwrap_or (sign_of (b ∷ [])) (Broken 1)
unfolding sign_front
one-within b [] h = alone b
one-within b (c ∷ []) h = by_sign (spelled_in signs (b ∷ c ∷ [])) h
  where
    by_sign : (o : Option TokenKind) → Within (unwrap_or (option_or (option_map (λ kind. Whole kind 2) o) (option_or (option_map (λ kind. Whole kind 2) o) (sign_of (b ∷ [])))) (Broken 1)) 1 →
        unwrap_or (option_or (option_map (λ kind. Whole kind 2) o) (option_or (option_map (λ kind. Whole kind 2) o) (sign_of (b ∷ [])))) (Broken 1) ≡ unwrap_or (sign_of (b ∷ [])) (Broken 1)
    by_sign None q = refl
    by_sign (Some k) q = absurd (omega (arith, q))
one-within b (c ∷ d ∷ rest) h = by_sign (spelled_in signs (b ∷ c ∷ d ∷ [])) (spelled_in signs (b ∷ c ∷ [])) h
  where
    by_sign : (p o : Option TokenKind) → Within (unwrap_or (option_or (option_map (λ kind. Whole kind 3) p) (option_or (option_map (λ kind. Whole kind 2) o) (sign_of (b ∷ [])))) (Broken 1)) 1 →
        unwrap_or (option_or (option_map (λ kind. Whole kind 3) p) (option_or (option_map (λ kind. Whole kind 2) o) (sign_of (b ∷ [])))) (Broken 1) ≡ unwrap_or (sign_of (b ∷ [])) (Broken 1)
    by_sign None None q = refl
    by_sign None (Some k) q = absurd (omega (arith, q))
    by_sign (Some k) o q = absurd (omega (arith, q))

-- the same of two bytes
pair-alone : (b c : ℕ) → sign_front (b ∷ c ∷ []) ≡ unwrap_or (option_or (sign_of (b ∷ c ∷ [])) (sign_of (b ∷ []))) (Broken 1)
unfolding sign_front
pair-alone b c = by_sign (sign_of (b ∷ c ∷ [])) (sign_of (b ∷ []))
  where
    by_sign : (o p : Option Front) → unwrap_or (option_or o (option_or o p)) (Broken 1) ≡ unwrap_or (option_or o p) (Broken 1)
    by_sign None p = refl
    by_sign (Some f) p = refl

two-kept : (b c : ℕ) (other : List ℕ) → AreApart (c ∷ []) other → sign_front (b ∷ c ∷ other) ≡ unwrap_or (option_or (sign_of (b ∷ c ∷ [])) (sign_of (b ∷ []))) (Broken 1)
unfolding sign_front
two-kept b c [] h = pair-alone b c
two-kept b c (d ∷ rest) h = rw (no-long_sign b c d (apart-differ c d h)) refl

pub two-within : (b c : ℕ) (more : List ℕ) → Within (sign_front (b ∷ c ∷ more)) 2 → sign_front (b ∷ c ∷ more) ≡ unwrap_or (option_or (sign_of (b ∷ c ∷ [])) (sign_of (b ∷ []))) (Broken 1)
unfolding sign_front
two-within b c [] h = pair-alone b c
two-within b c (d ∷ rest) h = by_sign (spelled_in signs (b ∷ c ∷ d ∷ [])) h
  where
    by_sign : (p : Option TokenKind) → Within (unwrap_or (option_or (option_map (λ kind. Whole kind 3) p) (option_or (sign_of (b ∷ c ∷ [])) (sign_of (b ∷ [])))) (Broken 1)) 2 →
        unwrap_or (option_or (option_map (λ kind. Whole kind 3) p) (option_or (sign_of (b ∷ c ∷ [])) (sign_of (b ∷ [])))) (Broken 1) ≡ unwrap_or (option_or (sign_of (b ∷ c ∷ [])) (sign_of (b ∷ []))) (Broken 1)
    by_sign None q = refl
    by_sign (Some k) q = absurd (omega (arith, q))

sign-kept : (b : ℕ) (bytes more other : List ℕ) → Within (sign_front (b ∷ bytes ++ more)) (suc (length bytes)) → AreApart (b ∷ bytes) other → sign_front (b ∷ bytes ++ other) ≡ sign_front (b ∷ bytes ++ more)
unfolding sign_front
sign-kept b [] more other h apart = one-kept b other apart ∙ sym (one-within b more h)
sign-kept b (c ∷ []) more other h apart = two-kept b c other apart ∙ sym (two-within b c more h)
sign-kept b (c ∷ d ∷ bytes) more other h apart = refl

-- ---- what stands at the front

-- what is found, by the tests in their order
abbrev pub found_by : (t0 t1 t2 t3 t4 : Bool) → (word number line comment sign : Front) → Front
found_by t0 t1 t2 t3 t4 word number line comment sign = cond t0 (Passed 1) (cond t1 word (cond t2 number (cond t3 line (cond t4 comment sign))))

abbrev pub line_of : List ℕ → Front
line_of xs = Passed (length (take_while is_in_line xs))

abbrev pub comment_of : List ℕ → Front
comment_of xs = comment_front (closing (drop 2 xs))

pub front-is : (b : ℕ) (xs : List ℕ) → front_of (b ∷ xs) ≡ found_by (is_blank b) (is_letter b) (is_digit b) (begins (b ∷ xs) (codes "--")) (begins (b ∷ xs) (codes "/*")) (word_front (take_while is_name_byte (b ∷ xs))) (number_front (take_while is_digit (b ∷ xs))) (line_of (b ∷ xs)) (comment_of (b ∷ xs)) (sign_front (b ∷ xs))
unfolding front_of
front-is b xs = refl

pub less : (P : ℕ → Type 0) (f : Front) (k : ℕ) → ByFront f (λ n. P n × (n - 1 ≤ k)) → Within f (suc k)
less P (Passed n) k h = let low = h.1 in omega (arith, low)
less P (Whole kind n) k h = let low = h.1 in omega (arith, low)
less P (Broken number) k h = absurd h

pub same-front : (t0 t1 t2 t3 t4 t3' t4' : Bool) (word number comment sign word' number' comment' sign' : Front) (n n' k : ℕ) →
    ByFront (found_by t0 t1 t2 t3 t4 word number (Passed n) comment sign) (λ m. (t3 ≡ true → m ≤ k) × (m - 1 ≤ k)) →
    (Within word (suc k) → word' ≡ word) → (Within number (suc k) → number' ≡ number) → (t3 ≡ true → n ≤ k → (t3' ≡ true) × (n' ≡ n)) → (t3 ≡ false → t3' ≡ false) →
    (t4 ≡ true → Within comment (suc k) → (t4' ≡ true) × (comment' ≡ comment)) → (t4 ≡ false → t4' ≡ false) → (Within sign (suc k) → sign' ≡ sign) →
    found_by t0 t1 t2 t3' t4' word' number' (Passed n') comment' sign' ≡ found_by t0 t1 t2 t3 t4 word number (Passed n) comment sign
same-front true t1 t2 t3 t4 t3' t4' w d c s w' d' c' s' n n' k h fw fd fl nl fc nc fs = refl
same-front false true t2 t3 t4 t3' t4' w d c s w' d' c' s' n n' k h fw fd fl nl fc nc fs = fw (less (λ m. t3 ≡ true → m ≤ k) w k h)
same-front false false true t3 t4 t3' t4' w d c s w' d' c' s' n n' k h fw fd fl nl fc nc fs = fd (less (λ m. t3 ≡ true → m ≤ k) d k h)
same-front false false false true t4 t3' t4' w d c s w' d' c' s' n n' k h fw fd fl nl fc nc fs = let p = fl refl (h.0 refl) in rw (p.0, p.1) refl
same-front false false false false true t3' t4' w d c s w' d' c' s' n n' k h fw fd fl nl fc nc fs = let p = fc refl (less (λ m. false ≡ true → m ≤ k) c k h) in rw (nl refl, p.0) p.1
same-front false false false false false t3' t4' w d c s w' d' c' s' n n' k h fw fd fl nl fc nc fs = rw (nl refl, nc refl) (fs (less (λ m. false ≡ true → m ≤ k) s k h))

-- ---- how comments begin

-- a byte of two that begin so
pub begins-two : (x y b : ℕ) (xs : List ℕ) → begins (b ∷ xs) (x ∷ y ∷ []) ≡ true → (b ≡ x) × ((c : ℕ) (rest : List ℕ) → xs ≡ c ∷ rest → c ≡ y)
begins-two x y b [] e = absurd (none (nat_eq x b) e)
  where
    none : (t : Bool) → (t && false) ≡ true → ⊥
    none true q = absurd (cc (q))
    none false q = absurd (cc (q))
begins-two x y b (c ∷ rest) e = by_tests (nat_eq x b) (nat_eq y c) refl refl e
  where
    by_tests : (t s : Bool) → nat_eq x b ≡ t → nat_eq y c ≡ s → (t && (s && true)) ≡ true → (b ≡ x) × ((d : ℕ) (more : List ℕ) → c ∷ rest ≡ d ∷ more → d ≡ y)
    by_tests true true p q r = (sym (eqb-true x b p), λ d more same. sym (head_is same) ∙ sym (eqb-true y c q))
    by_tests true false p q r = absurd (cc (r))
    by_tests false s p q r = absurd (cc (r))

no-pair : (x y b : ℕ) (other : List ℕ) → AreApart (b ∷ []) other → ((c : ℕ) → Differ b c → bytes_eq (x ∷ y ∷ []) (b ∷ c ∷ []) ≡ false) → begins (b ∷ other) (x ∷ y ∷ []) ≡ false
no-pair x y b [] apart differ = and_none (nat_eq x b)
  where
    and_none : (t : Bool) → (t && false) ≡ false
    and_none true = refl
    and_none false = refl
no-pair x y b (c ∷ rest) apart differ = differ c (apart-differ b c apart)

pub same-begins : (x y b c : ℕ) (xs ys : List ℕ) → begins (b ∷ c ∷ xs) (x ∷ y ∷ []) ≡ begins (b ∷ c ∷ ys) (x ∷ y ∷ [])
same-begins x y b c xs ys = refl

-- the same begins a line comment, or nothing does
line-back : (b : ℕ) (bytes more other : List ℕ) → AreApart (b ∷ bytes) other → begins (b ∷ bytes ++ other) (codes "--") ≡ true → begins (b ∷ bytes ++ more) (codes "--") ≡ true
line-back b [] more other apart e = absurd (cc (e, no-pair 45 45 b other apart (λ c p. p.line)))
line-back b (c ∷ bytes) more other apart e = same-begins 45 45 b c (bytes ++ more) (bytes ++ other) ∙ e

no-line : (b : ℕ) (bytes more other : List ℕ) → AreApart (b ∷ bytes) other → begins (b ∷ bytes ++ more) (codes "--") ≡ false → begins (b ∷ bytes ++ other) (codes "--") ≡ false
no-line b [] more other apart e = no-pair 45 45 b other apart (λ c p. p.line)
no-line b (c ∷ bytes) more other apart e = same-begins 45 45 b c (bytes ++ other) (bytes ++ more) ∙ e

no-comment : (b : ℕ) (bytes more other : List ℕ) → AreApart (b ∷ bytes) other → begins (b ∷ bytes ++ more) (codes "/*") ≡ false → begins (b ∷ bytes ++ other) (codes "/*") ≡ false
no-comment b [] more other apart e = no-pair 47 42 b other apart (λ c p. p.comment)
no-comment b (c ∷ bytes) more other apart e = same-begins 47 42 b c (bytes ++ other) (bytes ++ more) ∙ e

abbrev pub line_length : List ℕ → ℕ
line_length xs = length (take_while is_in_line xs)

pub line-kept : (b : ℕ) (bytes more other : List ℕ) → begins (b ∷ bytes ++ more) (codes "--") ≡ true → line_length (b ∷ bytes ++ more) ≤ length bytes →
    (begins (b ∷ bytes ++ other) (codes "--") ≡ true) × (line_length (b ∷ bytes ++ other) ≡ line_length (b ∷ bytes ++ more))
line-kept b [] more other e le = absurd (by_line (is_in_line b) in_line (subst (λ l. length l ≤ 0) (take_while-cons is_in_line b more) le))
  where
    in_line : is_in_line b ≡ true
    in_line = let same : b ≡ 45 = (begins-two 45 45 b more e).0 in subst (λ k. is_in_line k ≡ true) (sym same) refl

    by_line : (t : Bool) → t ≡ true → length (cond t (b ∷ take_while is_in_line more) []) ≤ 0 → ⊥
    by_line true q h = omega (arith, h)
    by_line false q h = absurd (cc (q))
line-kept b (c ∷ bytes) more other e le = (same-begins 45 45 b c (bytes ++ other) (bytes ++ more) ∙ e, ap length (inner-kept is_in_line (b ∷ c ∷ bytes) more other (omega (arith, le))))

pub comment-kept : (b : ℕ) (bytes more other : List ℕ) → begins (b ∷ bytes ++ more) (codes "/*") ≡ true → Within (comment_of (b ∷ bytes ++ more)) (suc (length bytes)) →
    (begins (b ∷ bytes ++ other) (codes "/*") ≡ true) × (comment_of (b ∷ bytes ++ other) ≡ comment_of (b ∷ bytes ++ more))
comment-kept b [] more other e h = absurd (by_closing (closing (drop 2 (b ∷ more))) h)
  where
    by_closing : (o : Option ℕ) → Within (comment_front o) 1 → ⊥
    by_closing None q = q
    by_closing (Some k) q = omega (arith, q)
comment-kept b (c ∷ bytes) more other e h = (same-begins 47 42 b c (bytes ++ other) (bytes ++ more) ∙ e, by_closing (closing (bytes ++ more)) refl h)
  where
    by_closing : (o : Option ℕ) → closing (bytes ++ more) ≡ o → Within (comment_front o) (suc (suc (length bytes))) → comment_front (closing (bytes ++ other)) ≡ comment_front o
    by_closing None p q = absurd q
    by_closing (Some k) p q = ap comment_front (closing-kept bytes more other k p (omega (arith, q)))

front-kept : (b : ℕ) (bytes more other : List ℕ) → ByFront (front_of (b ∷ bytes ++ more)) (λ n. (begins (b ∷ bytes ++ more) (codes "--") ≡ true → n ≤ length bytes) × (n - 1 ≤ length bytes)) → AreApart (b ∷ bytes) other →
    front_of (b ∷ bytes ++ other) ≡ front_of (b ∷ bytes ++ more)
front-kept b bytes more other h apart =
    front-is b (bytes ++ other)
    ∙ same-front (is_blank b) (is_letter b) (is_digit b) (begins (b ∷ bytes ++ more) (codes "--")) (begins (b ∷ bytes ++ more) (codes "/*")) (begins (b ∷ bytes ++ other) (codes "--")) (begins (b ∷ bytes ++ other) (codes "/*"))
    (word_front (take_while is_name_byte (b ∷ bytes ++ more))) (number_front (take_while is_digit (b ∷ bytes ++ more))) (comment_of (b ∷ bytes ++ more)) (sign_front (b ∷ bytes ++ more))
    (word_front (take_while is_name_byte (b ∷ bytes ++ other))) (number_front (take_while is_digit (b ∷ bytes ++ other))) (comment_of (b ∷ bytes ++ other)) (sign_front (b ∷ bytes ++ other))
    (line_length (b ∷ bytes ++ more)) (line_length (b ∷ bytes ++ other)) (length bytes)
    (subst (λ f. ByFront f (λ n. (begins (b ∷ bytes ++ more) (codes "--") ≡ true → n ≤ length bytes) × (n - 1 ≤ length bytes))) (front-is b (bytes ++ more)) h)
    (λ w. ap word_front (run-kept is_name_byte same-name b bytes more other (word-within (take_while is_name_byte (b ∷ bytes ++ more)) (suc (length bytes)) w) apart))
    (λ w. ap number_front (run-kept is_digit digit-names b bytes more other (number-within (take_while is_digit (b ∷ bytes ++ more)) (suc (length bytes)) w) apart))
    (line-kept b bytes more other) (no-line b bytes more other apart)
    (comment-kept b bytes more other) (no-comment b bytes more other apart)
    (λ w. sign-kept b bytes more other w apart)
    ∙ sym (front-is b (bytes ++ more))

pub cut-within : (skip : ℕ) (p more : List ℕ) → IsCut skip p more → skip ≤ length p
cut-within zero p more c = omega arith
cut-within (suc skip) [] more c = absurd c
cut-within (suc skip) (b ∷ p) more c = let h = cut-within skip p more c in omega (arith, h)

apart-tail : (b : ℕ) (p other : List ℕ) → AreApart (b ∷ p) other → AreApart p other
apart-tail b [] other a = tt
apart-tail b (c ∷ p) other a = a

pub front-same : (b : ℕ) (p more other : List ℕ) → IsCut 0 (b ∷ p) more → AreApart (b ∷ p) other → front_of (b ∷ p ++ other) ≡ front_of (b ∷ p ++ more)
front-same b p more other c apart = front-kept b p more other (by_front (front_of (b ∷ p ++ more)) c) apart
  where
    by_front : (f : Front) → ByFront f (λ n. (begins (b ∷ p ++ more) (codes "--") ≡ true → n ≤ length p) × IsCut (n - 1) p more) →
        ByFront f (λ n. (begins (b ∷ p ++ more) (codes "--") ≡ true → n ≤ length p) × (n - 1 ≤ length p))
    by_front (Passed n) h = (h.0, cut-within (n - 1) p more h.1)
    by_front (Whole kind n) h = (h.0, cut-within (n - 1) p more h.1)
    by_front (Broken number) h = h

-- what is cut in front of the one rest is cut in front of any other that does not go together with it
pub cut-kept : (skip : ℕ) (p more other : List ℕ) → IsCut skip p more → AreApart p other → IsCut skip p other
cut-kept zero [] more other c apart = tt
cut-kept (suc skip) [] more other c apart = absurd c
cut-kept (suc skip) (b ∷ p) more other c apart = cut-kept skip p more other c (apart-tail b p other apart)
cut-kept zero (b ∷ p) more other c apart =
    subst (λ f. ByFront f (λ n. (begins (b ∷ p ++ other) (codes "--") ≡ true → n ≤ length p) × IsCut (n - 1) p other)) (sym (front-same b p more other c apart))
    (by_front (front_of (b ∷ p ++ more)) c (λ k d. cut-kept k p more other d (apart-tail b p other apart)))
  where
    by_front : (f : Front) → ByFront f (λ n. (begins (b ∷ p ++ more) (codes "--") ≡ true → n ≤ length p) × IsCut (n - 1) p more) → ((k : ℕ) → IsCut k p more → IsCut k p other) →
        ByFront f (λ n. (begins (b ∷ p ++ other) (codes "--") ≡ true → n ≤ length p) × IsCut (n - 1) p other)
    by_front (Passed n) h rest = (λ e. h.0 (line-back b p more other apart e), rest (n - 1) h.1)
    by_front (Whole kind n) h rest = (λ e. h.0 (line-back b p more other apart e), rest (n - 1) h.1)
    by_front (Broken number) h rest = h
