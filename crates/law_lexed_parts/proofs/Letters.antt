-- What stands before a name is read the same whatever name comes there; and what is read as a name.
use Rattle.std.proofs.Common.{◌≡◌, ◌≤◌, ◌+◌, ◌-◌, ℕ, zero, suc, List, [], ◌∷◌, ◌++◌, length, take, take_while, drop, codes, Option, Some, None, Bool, true, false, ◌&&◌, ◌||◌, cond, nat_lt, nat_le, nat_eq, ◌==◌, map, position, refl, sym, ap, ◌∙◌, subst, arith}
use Rattle.std.specs.Option.{option_map, option_or, unwrap_or}
use Rattle.std.specs.Str.{bytes_eq}
use Rattle.std.proofs.lemmas.Bool.{eqb-true, leb-true}
use Rattle.std.proofs.lemmas.List.Sums.{take_while-cons}
use Rattle.smv_core.specs.declared.token.TokenKind.{TokenKind}
use Rattle.smv_core.specs.declared.token.TokenKind.TheVariants.{Ident, Number, Sign, Reserved}
use Rattle.smv_core.specs.Spellings.{signs, reserved_words}
use Rattle.smv_lex.specs.declared.front.Front.{Front}
use Rattle.smv_lex.specs.declared.front.Front.TheVariants.{Passed, Whole, Broken}
use Rattle.smv_lex.specs.Lexing.{is_blank, is_letter, is_digit, is_name_byte, number_of, begins, closing, word_kind, word_front, number_front, sign_of, sign_front, comment_front, front_of}
use Rattle.smv_lex.proofs.Numbered.{signs_by_place, words_by_place}
use Rattle.law_lexed_parts.specs.Parts.{ByFront, IsCut, with_front, tokens_before}
use Rattle.law_lexed_parts.proofs.Signs.{no-sign, no-long_sign, letter-differ, other-byte}
use Rattle.law_lexed_parts.proofs.Seams.{word-within, found_by, line_of, comment_of, front-is, same-front, same-begins, line_length, line-kept, comment-kept, cut-within}

-- ---- letters

pub letter-name : (c : ℕ) → is_letter c ≡ true → is_name_byte c ≡ true
letter-name c letter = ap (λ (t : Bool). t || is_digit c) letter

letter-no-digit : (b : ℕ) → is_letter b ≡ true → is_digit b ≡ false
letter-no-digit b letter = by (is_digit b) refl
  where
    high : (r s t u v : Bool) → nat_le 65 b ≡ r → nat_le 97 b ≡ t → (b == 95) ≡ v → (r && s || t && u || v) ≡ true → 65 ≤ b
    high true s t u v e f g h = leb-true 65 b e
    high false s true u v e f g h = let k = leb-true 97 b f in omega arith
    high false s false u true e f g h = let k = eqb-true b 95 g in omega arith
    high false s false u false e f g h = absurd cc

    low : (r s : Bool) → nat_le b 57 ≡ s → (r && s) ≡ true → b ≤ 57
    low true true e h = leb-true b 57 e
    low true false e h = absurd cc
    low false s e h = absurd cc

    by : (r : Bool) → is_digit b ≡ r → r ≡ false
    by false e = refl
    by true e =
        let above : 65 ≤ b = high (nat_le 65 b) (nat_le b 90) (nat_le 97 b) (nat_le b 122) (b == 95) refl refl refl letter in
        let below : b ≤ 57 = low (nat_le 48 b) (nat_le b 57) refl e in
        absurd (omega (arith, above, below))

-- ---- runs of bytes before one of two others

-- that stops before either
run-stops : (f : ℕ → Bool) (s : List ℕ) (c d : ℕ) (more other : List ℕ) → f c ≡ false → f d ≡ false → take_while f (s ++ d ∷ other) ≡ take_while f (s ++ c ∷ more)
run-stops f [] c d more other p q = take_while-cons f d other ∙ ap (λ t. cond t (d ∷ take_while f other) []) q ∙ sym (take_while-cons f c more ∙ ap (λ t. cond t (c ∷ take_while f more) []) p)
run-stops f (a ∷ s) c d more other p q = take_while-cons f a (s ++ d ∷ other) ∙ ap (λ l. cond (f a) (a ∷ l) []) (run-stops f s c d more other p q) ∙ sym (take_while-cons f a (s ++ c ∷ more))

-- that would take the one, and ends before it
run-ends : (f : ℕ → Bool) (s : List ℕ) (c d : ℕ) (more other : List ℕ) → f c ≡ true → length (take_while f (s ++ c ∷ more)) ≤ length s → take_while f (s ++ d ∷ other) ≡ take_while f (s ++ c ∷ more)
run-ends f [] c d more other p le = absurd (taken (f c) p (subst (λ l. length l ≤ 0) (take_while-cons f c more) le))
  where
    taken : (t : Bool) → t ≡ true → length (cond t (c ∷ take_while f more) []) ≤ 0 → ⊥
    taken true e h = omega (arith, h)
    taken false e h = absurd (cc (e))
run-ends f (a ∷ s) c d more other p le =
    take_while-cons f a (s ++ d ∷ other) ∙ by_test (f a) (subst (λ l. length l ≤ suc (length s)) (take_while-cons f a (s ++ c ∷ more)) le) (λ low. run-ends f s c d more other p low) ∙ sym (take_while-cons f a (s ++ c ∷ more))
  where
    by_test : (t : Bool) → length (cond t (a ∷ take_while f (s ++ c ∷ more)) []) ≤ suc (length s) → (length (take_while f (s ++ c ∷ more)) ≤ length s → take_while f (s ++ d ∷ other) ≡ take_while f (s ++ c ∷ more)) →
        cond t (a ∷ take_while f (s ++ d ∷ other)) [] ≡ cond t (a ∷ take_while f (s ++ c ∷ more)) []
    by_test false h rest = refl
    by_test true h rest = ap (λ l. a ∷ l) (rest (omega (arith, h)))

-- ---- what stands before one of two names

module _ (c d : ℕ) (more other : List ℕ) (is_c : is_letter c ≡ true) (is_d : is_letter d ≡ true) where
  one-letter : (b e : ℕ) (rest : List ℕ) → is_letter e ≡ true → sign_front (b ∷ e ∷ rest) ≡ unwrap_or (sign_of (b ∷ [])) (Broken 1)
  unfolding sign_front
  one-letter b e [] h = rw (no-sign b e [] (letter-differ b e h)) refl
  one-letter b e (z ∷ rest) h = rw (no-sign b e (z ∷ []) (letter-differ b e h), no-sign b e [] (letter-differ b e h)) refl

  two-letter : (b a e : ℕ) (rest : List ℕ) → is_letter e ≡ true → sign_front (b ∷ a ∷ e ∷ rest) ≡ unwrap_or (option_or (sign_of (b ∷ a ∷ [])) (sign_of (b ∷ []))) (Broken 1)
  unfolding sign_front
  two-letter b a e rest h = rw (no-long_sign b a e (letter-differ a e h)) refl

  sign-same : (b : ℕ) (p : List ℕ) → sign_front (b ∷ p ++ d ∷ other) ≡ sign_front (b ∷ p ++ c ∷ more)
  unfolding sign_front
  sign-same b [] = one-letter b d other is_d ∙ sym (one-letter b c more is_c)
  sign-same b (a ∷ []) = two-letter b a d other is_d ∙ sym (two-letter b a c more is_c)
  sign-same b (a ∷ z ∷ p) = refl

  no-begin : (x y b e : ℕ) (rest : List ℕ) → nat_eq y e ≡ false → begins (b ∷ e ∷ rest) (x ∷ y ∷ []) ≡ false
  no-begin x y b e rest h = by_tests (nat_eq x b) (nat_eq y e) h
    where
      by_tests : (t s : Bool) → s ≡ false → (t && (s && true)) ≡ false
      by_tests true false h = refl
      by_tests false s h = refl
      by_tests true true h = absurd (cc (h))

  begins-same : (x y b : ℕ) (p : List ℕ) → nat_eq y c ≡ false → nat_eq y d ≡ false → begins (b ∷ p ++ d ∷ other) (x ∷ y ∷ []) ≡ begins (b ∷ p ++ c ∷ more) (x ∷ y ∷ [])
  begins-same x y b [] h k = no-begin x y b d other k ∙ sym (no-begin x y b c more h)
  begins-same x y b (a ∷ p) h k = same-begins x y b a (p ++ d ∷ other) (p ++ c ∷ more)

  line-same : (b : ℕ) (p : List ℕ) → begins (b ∷ p ++ d ∷ other) (codes "--") ≡ begins (b ∷ p ++ c ∷ more) (codes "--")
  line-same b p = begins-same 45 45 b p (other-byte 45 c refl is_c) (other-byte 45 d refl is_d)

  front-same : (b : ℕ) (p : List ℕ) → ByFront (front_of (b ∷ p ++ c ∷ more)) (λ n. (begins (b ∷ p ++ c ∷ more) (codes "--") ≡ true → n ≤ length p) × (n - 1 ≤ length p)) → front_of (b ∷ p ++ d ∷ other) ≡ front_of (b ∷ p ++ c ∷ more)
  front-same b p h =
      front-is b (p ++ d ∷ other)
      ∙ same-front (is_blank b) (is_letter b) (is_digit b) (begins (b ∷ p ++ c ∷ more) (codes "--")) (begins (b ∷ p ++ c ∷ more) (codes "/*")) (begins (b ∷ p ++ d ∷ other) (codes "--")) (begins (b ∷ p ++ d ∷ other) (codes "/*"))
      (word_front (take_while is_name_byte (b ∷ p ++ c ∷ more))) (number_front (take_while is_digit (b ∷ p ++ c ∷ more))) (comment_of (b ∷ p ++ c ∷ more)) (sign_front (b ∷ p ++ c ∷ more))
      (word_front (take_while is_name_byte (b ∷ p ++ d ∷ other))) (number_front (take_while is_digit (b ∷ p ++ d ∷ other))) (comment_of (b ∷ p ++ d ∷ other)) (sign_front (b ∷ p ++ d ∷ other))
      (line_length (b ∷ p ++ c ∷ more)) (line_length (b ∷ p ++ d ∷ other)) (length p)
      (subst (λ f. ByFront f (λ n. (begins (b ∷ p ++ c ∷ more) (codes "--") ≡ true → n ≤ length p) × (n - 1 ≤ length p))) (front-is b (p ++ c ∷ more)) h)
      (λ w. ap word_front (run-ends is_name_byte (b ∷ p) c d more other (letter-name c is_c) (word-within (take_while is_name_byte (b ∷ p ++ c ∷ more)) (suc (length p)) w)))
      (λ w. ap number_front (run-stops is_digit (b ∷ p) c d more other (letter-no-digit c is_c) (letter-no-digit d is_d)))
      (line-kept b p (c ∷ more) (d ∷ other)) (λ e. line-same b p ∙ e)
      (comment-kept b p (c ∷ more) (d ∷ other)) (λ e. begins-same 47 42 b p (other-byte 42 c refl is_c) (other-byte 42 d refl is_d) ∙ e)
      (λ w. sign-same b p)
      ∙ sym (front-is b (p ++ c ∷ more))

  cut-front : (b : ℕ) (p : List ℕ) → IsCut 0 (b ∷ p) (c ∷ more) → front_of (b ∷ p ++ d ∷ other) ≡ front_of (b ∷ p ++ c ∷ more)
  cut-front b p h = front-same b p (by_front (front_of (b ∷ p ++ c ∷ more)) h)
    where
      by_front : (f : Front) → ByFront f (λ n. (begins (b ∷ p ++ c ∷ more) (codes "--") ≡ true → n ≤ length p) × IsCut (n - 1) p (c ∷ more)) →
          ByFront f (λ n. (begins (b ∷ p ++ c ∷ more) (codes "--") ≡ true → n ≤ length p) × (n - 1 ≤ length p))
      by_front (Passed n) h = (h.0, cut-within (n - 1) p (c ∷ more) h.1)
      by_front (Whole kind n) h = (h.0, cut-within (n - 1) p (c ∷ more) h.1)
      by_front (Broken number) h = h

  -- the lexer begins anew with the other name as it did with the one
  pub cut-before-name : (skip : ℕ) (p : List ℕ) → IsCut skip p (c ∷ more) → IsCut skip p (d ∷ other)
  cut-before-name zero [] h = tt
  cut-before-name (suc skip) [] h = absurd h
  cut-before-name (suc skip) (b ∷ p) h = cut-before-name skip p h
  cut-before-name zero (b ∷ p) h =
      subst (λ f. ByFront f (λ n. (begins (b ∷ p ++ d ∷ other) (codes "--") ≡ true → n ≤ length p) × IsCut (n - 1) p (d ∷ other))) (sym (cut-front b p h))
      (by_front (front_of (b ∷ p ++ c ∷ more)) h (λ k g. cut-before-name k p g))
    where
      by_front : (f : Front) → ByFront f (λ n. (begins (b ∷ p ++ c ∷ more) (codes "--") ≡ true → n ≤ length p) × IsCut (n - 1) p (c ∷ more)) → ((k : ℕ) → IsCut k p (c ∷ more) → IsCut k p (d ∷ other)) →
          ByFront f (λ n. (begins (b ∷ p ++ d ∷ other) (codes "--") ≡ true → n ≤ length p) × IsCut (n - 1) p (d ∷ other))
      by_front (Passed n) g rest = (λ e. g.0 (sym (line-same b p) ∙ e), rest (n - 1) g.1)
      by_front (Whole kind n) g rest = (λ e. g.0 (sym (line-same b p) ∙ e), rest (n - 1) g.1)
      by_front (Broken number) g rest = g

  -- and the tokens before it are the same
  pub tokens-before-name : (at skip : ℕ) (p : List ℕ) → IsCut skip p (c ∷ more) → tokens_before at skip p (d ∷ other) ≡ tokens_before at skip p (c ∷ more)
  tokens-before-name at skip [] h = refl
  tokens-before-name at (suc skip) (b ∷ p) h = tokens-before-name (at + 1) skip p h
  tokens-before-name at zero (b ∷ p) h =
      ap (λ f. with_front at f (λ n. tokens_before (at + 1) (n - 1) p (d ∷ other))) (cut-front b p h)
      ∙ by_front (front_of (b ∷ p ++ c ∷ more)) h (λ k g. tokens-before-name (at + 1) k p g)
    where
      by_front : (f : Front) → ByFront f (λ n. (begins (b ∷ p ++ c ∷ more) (codes "--") ≡ true → n ≤ length p) × IsCut (n - 1) p (c ∷ more)) →
          ((k : ℕ) → IsCut k p (c ∷ more) → tokens_before (at + 1) k p (d ∷ other) ≡ tokens_before (at + 1) k p (c ∷ more)) →
          with_front at f (λ n. tokens_before (at + 1) (n - 1) p (d ∷ other)) ≡ with_front at f (λ n. tokens_before (at + 1) (n - 1) p (c ∷ more))
      by_front (Passed n) g rest = rest (n - 1) g.1
      by_front (Whole kind n) g rest = ap (λ l. record { kind = kind; at = at } ∷ l) (rest (n - 1) g.1)
      by_front (Broken number) g rest = refl

-- ---- what is read as a name

-- no name is read there
abbrev UnnamedKind : TokenKind → Type 0
UnnamedKind (Ident w) = ⊥
UnnamedKind (Number n) = Unit {0}
UnnamedKind (Sign i) = Unit {0}
UnnamedKind (Reserved i) = Unit {0}

abbrev Unnamed : Front → Type 0
Unnamed (Whole kind n) = UnnamedKind kind
Unnamed (Passed n) = Unit {0}
Unnamed (Broken number) = Unit {0}

abbrev NoneNamed : Option Front → Type 0
NoneNamed None = Unit {0}
NoneNamed (Some f) = Unnamed f

sign-unnamed : (bytes : List ℕ) → NoneNamed (sign_of bytes)
sign-unnamed bytes = subst (λ o. NoneNamed (option_map (λ kind. Whole kind (length bytes)) o)) (sym (signs_by_place bytes)) (by_place (position (λ word. bytes_eq word bytes) (map (λ entry. entry.1) signs)))
  where
    by_place : (o : Option ℕ) → NoneNamed (option_map (λ kind. Whole kind (length bytes)) (option_map Sign o))
    by_place None = tt
    by_place (Some i) = tt

signs-unnamed : (bytes : List ℕ) → Unnamed (sign_front bytes)
unfolding sign_front
signs-unnamed bytes = either (sign_of (take 3 bytes)) (sign_of (take 2 bytes)) (sign_of (take 1 bytes)) (sign-unnamed (take 3 bytes)) (sign-unnamed (take 2 bytes)) (sign-unnamed (take 1 bytes))
  where
    either : (a b c : Option Front) → NoneNamed a → NoneNamed b → NoneNamed c → Unnamed (unwrap_or (option_or a (option_or b c)) (Broken 1))
    either (Some f) b c p q r = p
    either None (Some f) c p q r = q
    either None None (Some f) p q r = r
    either None None None p q r = tt

number-unnamed : (digits : List ℕ) → Unnamed (number_front digits)
unfolding number_front
number-unnamed digits = by_test (nat_lt 511 (number_of digits))
  where
    by_test : (t : Bool) → Unnamed (cond t (Broken 2) (Whole (Number (number_of digits)) (length digits)))
    by_test true = tt
    by_test false = tt

comment-unnamed : (o : Option ℕ) → Unnamed (comment_front o)
comment-unnamed None = tt
comment-unnamed (Some n) = tt

name-word : (word w : List ℕ) (n : ℕ) → word_front word ≡ Whole (Ident w) n → (word ≡ w) × (n ≡ length word)
unfolding word_front word_kind
name-word word w n e = by_test (nat_lt 64 (length word)) e
  where
    by_place : (o : Option ℕ) → unwrap_or (option_map Reserved o) (Ident word) ≡ Ident w → word ≡ w
    by_place None h = cc (h)
    by_place (Some i) h = absurd (cc (h))

    by_kind : word_kind word ≡ Ident w → word ≡ w
    by_kind h = by_place (position (λ x. bytes_eq x word) (map (λ entry. entry.1) reserved_words)) (ap (λ o. unwrap_or o (Ident word)) (sym (words_by_place word)) ∙ h)

    by_test : (t : Bool) → cond t (Broken 3) (Whole (word_kind word) (length word)) ≡ Whole (Ident w) n → (word ≡ w) × (n ≡ length word)
    by_test true h = absurd (cc (h))
    by_test false h = (by_kind (cc (h)), cc (h))

nothing-read : (w : List ℕ) (n : ℕ) → front_of [] ≡ Whole (Ident w) n → ⊥
unfolding front_of
nothing-read w n e = absurd (cc (e))

-- a name is read where it begins with a letter, and has all bytes of names there
pub name-read : (xs w : List ℕ) (n : ℕ) → front_of xs ≡ Whole (Ident w) n → (b : ℕ) × (ys : List ℕ) × (xs ≡ b ∷ ys) × (is_letter b ≡ true) × (take_while is_name_byte xs ≡ w) × (n ≡ length w)
name-read [] w n e = absurd (nothing-read w n e)
name-read (b ∷ ys) w n e =
    let r = by_tests (is_blank b) (is_letter b) (is_digit b) (begins (b ∷ ys) (codes "--")) (begins (b ∷ ys) (codes "/*")) refl (sym (front-is b ys) ∙ e) in
    (b, ys, refl, r.0, r.1, r.2)
  where
    clash : (f : Front) → Unnamed f → f ≡ Whole (Ident w) n → ⊥
    clash f u q = subst Unnamed q u

    by_tests : (t0 t1 t2 t3 t4 : Bool) → is_letter b ≡ t1 →
        found_by t0 t1 t2 t3 t4 (word_front (take_while is_name_byte (b ∷ ys))) (number_front (take_while is_digit (b ∷ ys))) (line_of (b ∷ ys)) (comment_of (b ∷ ys)) (sign_front (b ∷ ys)) ≡ Whole (Ident w) n →
        (is_letter b ≡ true) × (take_while is_name_byte (b ∷ ys) ≡ w) × (n ≡ length w)
    by_tests true t1 t2 t3 t4 l q = absurd (cc (q))
    by_tests false true t2 t3 t4 l q = let p = name-word (take_while is_name_byte (b ∷ ys)) w n q in (l, p.0, p.1 ∙ ap length p.0)
    by_tests false false true t3 t4 l q = absurd (clash (number_front (take_while is_digit (b ∷ ys))) (number-unnamed (take_while is_digit (b ∷ ys))) q)
    by_tests false false false true t4 l q = absurd (cc (q))
    by_tests false false false false true l q = absurd (clash (comment_of (b ∷ ys)) (comment-unnamed (closing (drop 2 (b ∷ ys)))) q)
    by_tests false false false false false l q = absurd (clash (sign_front (b ∷ ys)) (signs-unnamed (b ∷ ys)) q)
