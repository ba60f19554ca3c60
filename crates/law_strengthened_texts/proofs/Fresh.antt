-- The new name is a name, and no token of the text.
use Rattle.std.proofs.Common.{◌≡◌, ◌≤◌, ◌<◌, ◌+◌, ◌^◌, ℕ, zero, suc, List, [], ◌∷◌, ◌++◌, length, drop, take_while, codes, None, filter, ◌⊎◌, ⊎_elim, inl, inr, Bool, true, false, not, ◌||◌, cond, if◌then◌else◌, refl, sym, ap, ◌∙◌, subst, arith}
use Rattle.std.specs.List.{list_any}
use Rattle.std.specs.Fmt.{decimal}
use Rattle.std.specs.Str.{bytes_eq}
use Rattle.std.specs.Str.Parse.{AllDigits}
use Rattle.std.proofs.lemmas.Bool.{le-leb, le-ltb}
use Rattle.std.proofs.lemmas.Fmt.{decimal_is_IsNumeral, decimal_injective, length-decimal-le}
use Rattle.std.proofs.lemmas.List.Sums.{take_while-cons}
use Rattle.std.proofs.lemmas.Slice.Eq.{bytes_eq-Decides}
use Rattle.std.proofs.lemmas.Str.Parse.{digit_from_value}
use Rattle.smv_core.specs.declared.token.Token.{Token}
use Rattle.smv_core.specs.declared.token.TokenKind.{TokenKind}
use Rattle.smv_core.specs.declared.token.TokenKind.TheVariants.{Ident, Number, Sign, Reserved}
use Rattle.smv_core.specs.Notation.{Tokens}
use Rattle.smv_core.specs.Spellings.{reserved_words, spelled_in}
use Rattle.smv_lex.specs.declared.front.Front.TheVariants.{Whole}
use Rattle.smv_lex.specs.Lexing.{is_letter, is_digit, is_name_byte, word_kind, word_front, front_of}
use Rattle.law_lists.proofs.Lists.{filter_few}
use Rattle.law_lexed_parts.proofs.Seams.{front-is}
use Rattle.law_lexed_parts.proofs.Parted.{whole-cut, whole-tokens}
use Rattle.law_strengthened_claims.specs.Renaming.{is_name, IsName}
use Rattle.law_strengthened_claims.proofs.RenamedBytes.{AllPass}
use Rattle.law_strengthened_texts.specs.Stronger.{below_name, first_free}
use Rattle.law_strengthened_texts.specs.Laws.{FreshIsName, FreshIsNoToken}

digit-byte : (c : ℕ) → 48 ≤ c → c ≤ 57 → is_name_byte c ≡ true
digit-byte c low high = either (is_letter c) (is_digit c) (rw (le-leb 48 c low, le-leb c 57 high) refl)
  where
    either : (a b : Bool) → b ≡ true → (a || b) ≡ true
    either true b e = refl
    either false b e = e

digits-pass : (ds : List ℕ) → AllDigits 10 ds → AllPass is_name_byte ds
digits-pass [] h = tt
digits-pass (c ∷ cs) h = let r = digit_from_value c h.0 in (digit-byte c r.0 r.1, digits-pass cs h.1)

all-taken : (ds : List ℕ) → AllPass is_name_byte ds → take_while is_name_byte (ds ++ codes " ") ≡ ds
all-taken [] h = refl
all-taken (c ∷ cs) h = take_while-cons is_name_byte c (cs ++ codes " ") ∙ ap (λ t. cond t (c ∷ take_while is_name_byte (cs ++ codes " ")) []) h.0 ∙ ap (λ l. c ∷ l) (all-taken cs h.1)

name-kind : (bytes : List ℕ) → length bytes ≤ 64 → spelled_in reserved_words bytes ≡ None → word_front bytes ≡ Whole (Ident bytes) (length bytes)
unfolding word_front word_kind
name-kind bytes short free = let few = le-ltb 64 (length bytes) short in rw (few, free) refl

-- no reserved word begins so
below-free : (d : List ℕ) → spelled_in reserved_words (codes "below" ++ d) ≡ None
below-free d = refl

below-read : (k : ℕ) → k < 2 ^ 32 → IsName (below_name k)
below-read k small =
    let d : List ℕ = decimal k in
    let digits = decimal_is_IsNumeral k (omega (arith, small)) in
    let pass : AllPass is_name_byte (below_name k) = (refl, (refl, (refl, (refl, (refl, digits-pass d digits.0.1))))) in
    let long : length d ≤ 10 = length-decimal-le 10 k (omega arith) (omega (arith, small)) (omega (arith, small)) in
    let front : front_of (below_name k ++ codes " ") ≡ Whole (Ident (below_name k)) (length (below_name k)) =
    front-is 98 (101 ∷ 108 ∷ 111 ∷ 119 ∷ d ++ codes " ") ∙ ap word_front (all-taken (below_name k) pass) ∙ name-kind (below_name k) (omega (arith, long)) (below-free d) in
    (whole-cut (Ident (below_name k)) (below_name k) (codes " ") front (omega arith), whole-tokens 0 (Ident (below_name k)) (below_name k) (codes " ") front (omega arith))

-- it is one of them
is-below : (ts : Tokens) (more k : ℕ) → (j : ℕ) × (first_free ts more k ≡ below_name j) × (j ≤ k + more)
is-below ts zero k = (k, refl, omega arith)
is-below ts (suc more) k = by_test (list_any (λ (t : Token). is_name (below_name k) t.kind) ts) (is-below ts more (k + 1))
  where
    by_test : (b : Bool) → (j : ℕ) × (first_free ts more (k + 1) ≡ below_name j) × (j ≤ k + 1 + more) → (j : ℕ) × ((if b then first_free ts more (k + 1) else below_name k) ≡ below_name j) × (j ≤ k + suc more)
    by_test true r = (r.0, r.1, let le = r.2 in omega (arith, le))
    by_test false r = (k, refl, omega arith)

pub fresh-name : FreshIsName
fresh-name ts few =
    let b = is-below ts (length ts) 0 in
    let small : b.0 < 2 ^ 32 = let le = b.2 in omega (arith, le, few) in
    subst IsName (sym b.1) (below-read b.0 small)

-- ---- and no token

abbrev has : Tokens → ℕ → Bool
has ts k = list_any (λ (t : Token). is_name (below_name k) t.kind) ts

same-or-above : (k i : ℕ) → k ≤ i → (k ≡ i) ⊎ (k + 1 ≤ i)
same-or-above k i h = grind (arith, h)

-- those before it are tokens, and it is none or the last that is tried
record Stops (ts : Tokens) (more k : ℕ) : Type 0 where
  j : ℕ
  is : first_free ts more k ≡ below_name j
  before : (i : ℕ) → k ≤ i → i < j → has ts i ≡ true
  stop : (has ts j ≡ false) ⊎ (j ≡ k + more)

stops : (ts : Tokens) (more k : ℕ) → Stops ts more k
stops ts zero k = record { j = k; is = refl; before = λ i low high. absurd (omega (arith, low, high)); stop = inr (omega arith) }
stops ts (suc more) k = by_test (has ts k) refl (stops ts more (k + 1))
  where
    by_test : (b : Bool) → has ts k ≡ b → Stops ts more (k + 1) → Stops ts (suc more) k
    by_test true e r = record {
      j = r.j;
      is = ap (λ (b : Bool). if b then first_free ts more (k + 1) else below_name k) e ∙ r.is;
      before = λ i low high. ⊎_elim (λ same. subst (λ m. has ts m ≡ true) same e) (λ above. r.before i above high) (same-or-above k i low);
      stop = ⊎_elim (λ h. inl h) (λ h. inr (omega (arith, h))) r.stop;
    }
    by_test false e r = record { j = k; is = ap (λ (b : Bool). if b then first_free ts more (k + 1) else below_name k) e; before = λ i low high. absurd (omega (arith, low, high)); stop = inl e }

fewer : (p : Token → Bool) (ts : Tokens) → list_any p ts ≡ true → length (filter (λ t. not (p t)) ts) < length ts
fewer p [] h = absurd (cc (h))
fewer p (t ∷ ts) h = by_test (p t) h (fewer p ts) (filter_few (λ t. not (p t)) ts)
  where
    by_test : (b : Bool) → (b || list_any p ts) ≡ true → (list_any p ts ≡ true → length (filter (λ t. not (p t)) ts) < length ts) → length (filter (λ t. not (p t)) ts) ≤ length ts →
        length (cond (not b) (t ∷ filter (λ t. not (p t)) ts) (filter (λ t. not (p t)) ts)) < suc (length ts)
    by_test true h rest few = omega (arith, few)
    by_test false h rest few = let r = rest h in omega (arith, r)

still : (p q : Token → Bool) → ((t : Token) → q t ≡ true → p t ≡ false) → (ts : Tokens) → list_any q ts ≡ true → list_any q (filter (λ t. not (p t)) ts) ≡ true
still p q other [] h = absurd (cc (h))
still p q other (t ∷ ts) h = by_tests (p t) (q t) refl refl h (still p q other ts)
  where
    by_tests : (b c : Bool) → p t ≡ b → q t ≡ c → (c || list_any q ts) ≡ true → (list_any q ts ≡ true → list_any q (filter (λ t. not (p t)) ts) ≡ true) → list_any q (cond (not b) (t ∷ filter (λ t. not (p t)) ts) (filter (λ t. not (p t)) ts)) ≡ true
    by_tests true true e f h rest = absurd (let none = other t f in cc (e, none))
    by_tests true false e f h rest = rest h
    by_tests false true e f h rest = ap (λ (c : Bool). c || list_any q (filter (λ t. not (p t)) ts)) f
    by_tests false false e f h rest = ap (λ (c : Bool). c || list_any q (filter (λ t. not (p t)) ts)) f ∙ rest h

-- the names differ
differ : (i m : ℕ) → i < m → m < 2 ^ 64 → (t : Token) → is_name (below_name i) t.kind ≡ true → is_name (below_name m) t.kind ≡ false
differ i m lt small t h = by_kind t.kind h
  where
    apart : below_name i ≡ below_name m → ⊥
    apart e =
        let same : decimal i ≡ decimal m = ap (drop 5) e in
        let number : i ≡ m = decimal_injective i m (omega (arith, lt, small)) (omega (arith, small)) same in
        omega (arith, number, lt)

    by_kind : (k : TokenKind) → is_name (below_name i) k ≡ true → is_name (below_name m) k ≡ false
    by_kind (Ident bytes) e = by_test (bytes_eq bytes (below_name m)) refl
      where
        by_test : (b : Bool) → bytes_eq bytes (below_name m) ≡ b → bytes_eq bytes (below_name m) ≡ false
        by_test false q = q
        by_test true q = absurd (apart (sym ((bytes_eq-Decides bytes (below_name i)).0 e) ∙ (bytes_eq-Decides bytes (below_name m)).0 q))
    by_kind (Number value) e = absurd (cc (e))
    by_kind (Sign i) e = absurd (cc (e))
    by_kind (Reserved i) e = absurd (cc (e))

-- no more of them are tokens than there are tokens
counted : (m : ℕ) (ts : Tokens) → m < 2 ^ 64 → ((i : ℕ) → i < m → has ts i ≡ true) → m ≤ length ts
counted zero ts small h = omega arith
counted (suc m) ts small h =
    let p : Token → Bool = λ t. is_name (below_name m) t.kind in
    let few = fewer p ts (h m (omega arith)) in
    let rest = counted m (filter (λ t. not (p t)) ts) (omega (arith, small)) (λ i lt. still p (λ t. is_name (below_name i) t.kind) (differ i m lt (omega (arith, small))) ts (h i (omega (arith, lt)))) in
    omega (arith, few, rest)

pub fresh-free : FreshIsNoToken
fresh-free ts few = subst (λ name. list_any (λ (t : Token). is_name name t.kind) ts ≡ false) (sym r.is) (⊎_elim (λ h. h) last r.stop)
  where
    r : Stops ts (length ts) 0
    r = stops ts (length ts) 0

    last : r.j ≡ 0 + length ts → has ts r.j ≡ false
    last e = by_test (has ts r.j) refl
      where
        by_test : (b : Bool) → has ts r.j ≡ b → has ts r.j ≡ false
        by_test false q = q
        by_test true q = absurd (
            let all = counted (suc r.j) ts (omega (arith, e, few)) (λ i lt. ⊎_elim (λ same. subst (λ m. has ts m ≡ true) (sym same) q) (λ below. r.before i (omega arith) (omega (arith, below))) (same-or-above i r.j (omega (arith, lt)))) in
            omega (arith, all, e)
            )
