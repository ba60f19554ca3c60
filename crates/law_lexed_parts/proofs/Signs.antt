-- Which bytes are the front of no sign.
use Rattle.std.proofs.Common.{◌≡◌, ℕ, List, [], ◌∷◌, None, Bool, true, false, ◌&&◌, ◌||◌, nat_eq, refl, sym, subst}
use Rattle.std.proofs.lemmas.Bool.{eqb-true}
use Rattle.std.specs.Str.{bytes_eq}
use Rattle.smv_core.specs.declared.token.TokenKind.{TokenKind}
use Rattle.smv_core.specs.Spellings.{signs, spelled_in}
use Rattle.smv_lex.specs.Lexing.{is_letter, is_name_byte}
use Rattle.law_lists.proofs.Booleans.{not_left, not_right}
use Rattle.law_lexed_parts.specs.Parts.{are_joined}

or_none : (a b : Bool) → a ≡ false → b ≡ false → (a || b) ≡ false
or_none false b e h = h
or_none true b e h = absurd (cc)

and_second : (a b : Bool) → b ≡ false → (a && b) ≡ false
and_second true b e = e
and_second false b e = refl

short : (x b c : ℕ) (rest : List ℕ) → bytes_eq (x ∷ []) (b ∷ c ∷ rest) ≡ false
short x b c rest = and_second (nat_eq x b) false refl

two : (x z b c d : ℕ) → bytes_eq (x ∷ z ∷ []) (b ∷ c ∷ d ∷ []) ≡ false
two x z b c d = and_second (nat_eq x b) _ (and_second (nat_eq z c) false refl)

-- a longer word is none where its first two bytes are not these
long : (x z : ℕ) (more : List ℕ) (b c : ℕ) (rest : List ℕ) → bytes_eq (x ∷ z ∷ []) (b ∷ c ∷ []) ≡ false → bytes_eq (x ∷ z ∷ more) (b ∷ c ∷ rest) ≡ false
long x z more b c rest = by_test (nat_eq x b) (nat_eq z c) (bytes_eq more rest)
  where
    by_test : (t s u : Bool) → (t && (s && true)) ≡ false → (t && (s && u)) ≡ false
    by_test true true u h = absurd (cc)
    by_test true false u h = refl
    by_test false s u h = refl

three : (x z y b c d : ℕ) → bytes_eq (z ∷ y ∷ []) (c ∷ d ∷ []) ≡ false → bytes_eq (x ∷ z ∷ y ∷ []) (b ∷ c ∷ d ∷ []) ≡ false
three x z y b c d h = and_second (nat_eq x b) _ h

abbrev AllDiffer : List (TokenKind × List ℕ) → List ℕ → Type 0
AllDiffer [] bytes = Unit {0}
AllDiffer (entry ∷ more) bytes = (bytes_eq entry.1 bytes ≡ false) × AllDiffer more bytes

none-of : (list : List (TokenKind × List ℕ)) (bytes : List ℕ) → AllDiffer list bytes → spelled_in list bytes ≡ None
none-of [] bytes p = refl
none-of (entry ∷ more) bytes p = rw (p.0) (none-of more bytes p.1)

-- two bytes begin no longer sign and no comment
pub record Differ (b c : ℕ) : Type 0 where
  pub dots : bytes_eq (46 ∷ 46 ∷ []) (b ∷ c ∷ []) ≡ false
  pub becomes : bytes_eq (58 ∷ 61 ∷ []) (b ∷ c ∷ []) ≡ false
  pub differ : bytes_eq (126 ∷ 61 ∷ []) (b ∷ c ∷ []) ≡ false
  pub at_most : bytes_eq (60 ∷ 61 ∷ []) (b ∷ c ∷ []) ≡ false
  pub at_least : bytes_eq (62 ∷ 61 ∷ []) (b ∷ c ∷ []) ≡ false
  pub arrow : bytes_eq (45 ∷ 62 ∷ []) (b ∷ c ∷ []) ≡ false
  pub double_arrow : bytes_eq (60 ∷ 45 ∷ []) (b ∷ c ∷ []) ≡ false
  pub slashes : bytes_eq (47 ∷ 47 ∷ []) (b ∷ c ∷ []) ≡ false
  pub line : bytes_eq (45 ∷ 45 ∷ []) (b ∷ c ∷ []) ≡ false
  pub comment : bytes_eq (47 ∷ 42 ∷ []) (b ∷ c ∷ []) ≡ false

-- nor are both bytes of names where they do not go together
pub apart-names : (b c : ℕ) → are_joined b c ≡ false → (is_name_byte b && is_name_byte c) ≡ false
apart-names b c h = not_left (is_name_byte b && is_name_byte c) _ h

pub apart-differ : (b c : ℕ) → are_joined b c ≡ false → Differ b c
apart-differ b c h =
    let r0 = not_right (is_name_byte b && is_name_byte c) _ h in
    let r1 = not_right (bytes_eq (46 ∷ 46 ∷ []) (b ∷ c ∷ [])) _ r0 in
    let r2 = not_right (bytes_eq (58 ∷ 61 ∷ []) (b ∷ c ∷ [])) _ r1 in
    let r3 = not_right (bytes_eq (126 ∷ 61 ∷ []) (b ∷ c ∷ [])) _ r2 in
    let r4 = not_right (bytes_eq (60 ∷ 61 ∷ []) (b ∷ c ∷ [])) _ r3 in
    let r5 = not_right (bytes_eq (62 ∷ 61 ∷ []) (b ∷ c ∷ [])) _ r4 in
    let r6 = not_right (bytes_eq (45 ∷ 62 ∷ []) (b ∷ c ∷ [])) _ r5 in
    let r7 = not_right (bytes_eq (60 ∷ 45 ∷ []) (b ∷ c ∷ [])) _ r6 in
    let r8 = not_right (bytes_eq (47 ∷ 47 ∷ []) (b ∷ c ∷ [])) _ r7 in
    let r9 = not_right (bytes_eq (45 ∷ 45 ∷ []) (b ∷ c ∷ [])) _ r8 in
    record {
      dots = not_left (bytes_eq (46 ∷ 46 ∷ []) (b ∷ c ∷ [])) _ r0;
      becomes = not_left (bytes_eq (58 ∷ 61 ∷ []) (b ∷ c ∷ [])) _ r1;
      differ = not_left (bytes_eq (126 ∷ 61 ∷ []) (b ∷ c ∷ [])) _ r2;
      at_most = not_left (bytes_eq (60 ∷ 61 ∷ []) (b ∷ c ∷ [])) _ r3;
      at_least = not_left (bytes_eq (62 ∷ 61 ∷ []) (b ∷ c ∷ [])) _ r4;
      arrow = not_left (bytes_eq (45 ∷ 62 ∷ []) (b ∷ c ∷ [])) _ r5;
      double_arrow = not_left (bytes_eq (60 ∷ 45 ∷ []) (b ∷ c ∷ [])) _ r6;
      slashes = not_left (bytes_eq (47 ∷ 47 ∷ []) (b ∷ c ∷ [])) _ r7;
      line = not_left (bytes_eq (45 ∷ 45 ∷ []) (b ∷ c ∷ [])) _ r8;
      comment = not_left (bytes_eq (47 ∷ 42 ∷ []) (b ∷ c ∷ [])) _ r9;
    }

-- no sign begins with two bytes that do not go together
pub no-sign : (b c : ℕ) (rest : List ℕ) → Differ b c → spelled_in signs (b ∷ c ∷ rest) ≡ None
no-sign b c rest p = none-of signs (b ∷ c ∷ rest) (short 40 b c rest, (short 41 b c rest, (short 91 b c rest, (short 93 b c rest, (short 123 b c rest, (short 125 b c rest, (short 58 b c rest, (short 59 b c rest, (short 44 b c rest, (short 46 b c rest, (long 46 46 [] b c rest p.dots, (long 58 61 [] b c rest p.becomes, (short 61 b c rest, (long 126 61 [] b c rest p.differ, (short 60 b c rest, (long 60 61 [] b c rest p.at_most, (short 62 b c rest, (long 62 61 [] b c rest p.at_least, (short 43 b c rest, (short 45 b c rest, (short 126 b c rest, (short 38 b c rest, (short 124 b c rest, (long 45 62 [] b c rest p.arrow, (long 60 45 (62 ∷ []) b c rest p.double_arrow, (short 63 b c rest, (long 47 47 [] b c rest p.slashes, tt)))))))))))))))))))))))))))

-- none of three bytes ends with such two
pub no-long_sign : (b c d : ℕ) → Differ c d → spelled_in signs (b ∷ c ∷ d ∷ []) ≡ None
no-long_sign b c d p =
    let s = λ (x : ℕ). short x b c (d ∷ []) in
    none-of signs (b ∷ c ∷ d ∷ []) (s 40, (s 41, (s 91, (s 93, (s 123, (s 125, (s 58, (s 59, (s 44, (s 46, (two 46 46 b c d, (two 58 61 b c d, (s 61, (two 126 61 b c d, (s 60, (two 60 61 b c d, (s 62, (two 62 61 b c d, (s 43, (s 45, (s 126, (s 38, (s 124, (two 45 62 b c d, (three 60 45 62 b c d p.arrow, (s 63, (two 47 47 b c d, tt)))))))))))))))))))))))))))

second : (x z b c : ℕ) → nat_eq z c ≡ false → bytes_eq (x ∷ z ∷ []) (b ∷ c ∷ []) ≡ false
second x z b c h = and_second (nat_eq x b) _ (by_test (nat_eq z c) h)
  where
    by_test : (t : Bool) → t ≡ false → (t && true) ≡ false
    by_test false e = refl
    by_test true e = absurd (cc)

-- a byte that is none of a name, and with which no longer sign and no comment goes on, does not go together with any before it
pub apart-behind : (c : ℕ) → is_name_byte c ≡ false → nat_eq 46 c ≡ false → nat_eq 61 c ≡ false → nat_eq 62 c ≡ false → nat_eq 45 c ≡ false → nat_eq 47 c ≡ false → nat_eq 42 c ≡ false → (b : ℕ) → are_joined b c ≡ false
apart-behind c h dot equal greater minus slash star b =
    or_none (is_name_byte b && is_name_byte c) _ (and_second (is_name_byte b) (is_name_byte c) h)
    (or_none (bytes_eq (46 ∷ 46 ∷ []) (b ∷ c ∷ [])) _ (second 46 46 b c dot) (or_none (bytes_eq (58 ∷ 61 ∷ []) (b ∷ c ∷ [])) _ (second 58 61 b c equal) (or_none (bytes_eq (126 ∷ 61 ∷ []) (b ∷ c ∷ [])) _ (second 126 61 b c equal)
    (or_none (bytes_eq (60 ∷ 61 ∷ []) (b ∷ c ∷ [])) _ (second 60 61 b c equal) (or_none (bytes_eq (62 ∷ 61 ∷ []) (b ∷ c ∷ [])) _ (second 62 61 b c equal) (or_none (bytes_eq (45 ∷ 62 ∷ []) (b ∷ c ∷ [])) _ (second 45 62 b c greater)
    (or_none (bytes_eq (60 ∷ 45 ∷ []) (b ∷ c ∷ [])) _ (second 60 45 b c minus) (or_none (bytes_eq (47 ∷ 47 ∷ []) (b ∷ c ∷ [])) _ (second 47 47 b c slash) (or_none (bytes_eq (45 ∷ 45 ∷ []) (b ∷ c ∷ [])) _ (second 45 45 b c minus)
    (or_none (bytes_eq (47 ∷ 42 ∷ []) (b ∷ c ∷ [])) _ (second 47 42 b c star) refl))))))))))

-- ---- letters

-- a byte that is none of a name is no letter
pub other-byte : (k c : ℕ) → is_letter k ≡ false → is_letter c ≡ true → nat_eq k c ≡ false
other-byte k c h letter = by_test (nat_eq k c) refl
  where
    by_test : (t : Bool) → nat_eq k c ≡ t → nat_eq k c ≡ false
    by_test false e = e
    by_test true e = absurd (let same : k ≡ c = eqb-true k c e in let clash : is_letter k ≡ true = subst (λ z. is_letter z ≡ true) (sym same) letter in cc (h, clash))

-- no longer sign and no comment has a letter behind its first byte
pub letter-differ : (b c : ℕ) → is_letter c ≡ true → Differ b c
letter-differ b c letter = record {
  dots = second 46 46 b c (other-byte 46 c refl letter);
  becomes = second 58 61 b c (other-byte 61 c refl letter);
  differ = second 126 61 b c (other-byte 61 c refl letter);
  at_most = second 60 61 b c (other-byte 61 c refl letter);
  at_least = second 62 61 b c (other-byte 61 c refl letter);
  arrow = second 45 62 b c (other-byte 62 c refl letter);
  double_arrow = second 60 45 b c (other-byte 45 c refl letter);
  slashes = second 47 47 b c (other-byte 47 c refl letter);
  line = second 45 45 b c (other-byte 45 c refl letter);
  comment = second 47 42 b c (other-byte 42 c refl letter);
}

first : (x z b c : ℕ) → nat_eq x b ≡ false → bytes_eq (x ∷ z ∷ []) (b ∷ c ∷ []) ≡ false
first x z b c h = rw (h) refl

-- a byte that is none of a name is another than one that is
unlike-name : (k a : ℕ) → is_name_byte k ≡ false → is_name_byte a ≡ true → nat_eq k a ≡ false
unlike-name k a h name = by_test (nat_eq k a) refl
  where
    by_test : (t : Bool) → nat_eq k a ≡ t → nat_eq k a ≡ false
    by_test false e = e
    by_test true e = absurd (let same : k ≡ a = eqb-true k a e in let clash : is_name_byte k ≡ true = subst (λ z. is_name_byte z ≡ true) (sym same) name in cc (h, clash))

-- a byte of a name and one that is none do not go together
pub name-apart : (a c : ℕ) → is_name_byte a ≡ true → is_name_byte c ≡ false → are_joined a c ≡ false
name-apart a c name other =
    or_none (is_name_byte a && is_name_byte c) _ (and_second (is_name_byte a) (is_name_byte c) other)
    (or_none (bytes_eq (46 ∷ 46 ∷ []) (a ∷ c ∷ [])) _ (first 46 46 a c (unlike-name 46 a refl name)) (or_none (bytes_eq (58 ∷ 61 ∷ []) (a ∷ c ∷ [])) _ (first 58 61 a c (unlike-name 58 a refl name)) (or_none (bytes_eq (126 ∷ 61 ∷ []) (a ∷ c ∷ [])) _ (first 126 61 a c (unlike-name 126 a refl name))
    (or_none (bytes_eq (60 ∷ 61 ∷ []) (a ∷ c ∷ [])) _ (first 60 61 a c (unlike-name 60 a refl name)) (or_none (bytes_eq (62 ∷ 61 ∷ []) (a ∷ c ∷ [])) _ (first 62 61 a c (unlike-name 62 a refl name)) (or_none (bytes_eq (45 ∷ 62 ∷ []) (a ∷ c ∷ [])) _ (first 45 62 a c (unlike-name 45 a refl name))
    (or_none (bytes_eq (60 ∷ 45 ∷ []) (a ∷ c ∷ [])) _ (first 60 45 a c (unlike-name 60 a refl name)) (or_none (bytes_eq (47 ∷ 47 ∷ []) (a ∷ c ∷ [])) _ (first 47 47 a c (unlike-name 47 a refl name)) (or_none (bytes_eq (45 ∷ 45 ∷ []) (a ∷ c ∷ [])) _ (first 45 45 a c (unlike-name 45 a refl name))
    (or_none (bytes_eq (47 ∷ 42 ∷ []) (a ∷ c ∷ [])) _ (first 47 42 a c (unlike-name 47 a refl name)) refl))))))))))
