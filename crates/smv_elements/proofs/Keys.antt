-- Elements by their keys: which are the same, and which stands before which.
use Rattle.std.proofs.Common.{◌≡◌, ℕ, ◌<◌, List, [], ◌∷◌, length, Bool, true, false, ◌&&◌, ◌||◌, refl, ap, subst, ◌∙◌, ◌⊎◌, inl, inr, nat_eq, nat_lt, arith}
use Rattle.std.proofs.lemmas.Bool.{or_cases, cases_Bool}
use Rattle.law_lists.proofs.Numbers.{nat_eq-is, nat_lt-is, nat_lt-true}
use Rattle.law_lists.proofs.Booleans.{left_of, right_of, not_left, not_right}
use Rattle.smv_core.specs.declared.flat.Class.{Class}
use Rattle.smv_core.specs.declared.flat.Class.TheVariants.{Number, Named, Rest}
use Rattle.smv_core.specs.declared.flat.Element.{Element}
use Rattle.law_obligations.proofs.Same.{nat_eq-itself}
use Rattle.smv_elements.specs.Elements.{sort_of, number_of, keys, key, numbers_before, same_numbers, same_element, is_before}

-- ---- numbers

neither : (a b : ℕ) → nat_lt a b ≡ false → nat_lt b a ≡ false → a ≡ b
neither a b e f = grind arith

no_more : (p q : Bool) → (p && q) ≡ false → p ≡ true → q ≡ false
no_more true q e t = e
no_more false q e t = absurd (cc)

-- a first number and then the others
by_first : (a b : ℕ) (r : Bool) → (nat_lt a b || (nat_eq a b && r)) ≡ true → (a < b) ⊎ ((a ≡ b) × (r ≡ true))
by_first a b r e = elim (or_cases (nat_lt a b) (nat_eq a b && r) e) [
  | inl l ↦ inl (nat_lt-is a b l)
  | inr k ↦ inr (nat_eq-is a b (left_of (nat_eq a b) r k), right_of (nat_eq a b) r k)
]

first_less : (a b : ℕ) (r : Bool) → a < b → (nat_lt a b || (nat_eq a b && r)) ≡ true
first_less a b r l = rw (nat_lt-true a b l) refl

first_same : (a : ℕ) (r : Bool) → r ≡ true → (nat_lt a a || (nat_eq a a && r)) ≡ true
first_same a r e = at (nat_lt a a) (rw (nat_eq-itself a) e)
  where
    at : (b : Bool) → (nat_eq a a && r) ≡ true → (b || (nat_eq a a && r)) ≡ true
    at true e = refl
    at false e = e

-- ---- lists of numbers

numbers-same : (ms bs : List ℕ) → same_numbers ms bs ≡ true → ms ≡ bs
numbers-same [] [] e = refl
numbers-same [] (b ∷ bs) e = absurd (cc)
numbers-same (a ∷ ms) [] e = absurd (cc)
numbers-same (a ∷ ms) (b ∷ bs) e =
    ap (λ n. n ∷ ms) (nat_eq-is a b (left_of (nat_eq a b) (same_numbers ms bs) e)) ∙ ap (λ ns. b ∷ ns) (numbers-same ms bs (right_of (nat_eq a b) (same_numbers ms bs) e))

numbers-itself : (ms : List ℕ) → same_numbers ms ms ≡ true
numbers-itself [] = refl
numbers-itself (a ∷ ms) = rw (nat_eq-itself a) (numbers-itself ms)

numbers-apart : (ms : List ℕ) → numbers_before ms ms ≡ true → ⊥
numbers-apart [] e = absurd (cc)
numbers-apart (a ∷ ms) e = elim (by_first a a (numbers_before ms ms) e) [ inl l ↦ absurd (omega (arith, l)) | inr k ↦ numbers-apart ms k.1 ]

numbers-follow : (ms bs cs : List ℕ) → numbers_before ms bs ≡ true → numbers_before bs cs ≡ true → numbers_before ms cs ≡ true
numbers-follow [] [] cs e f = f
numbers-follow [] (b ∷ bs) [] e f = absurd (cc)
numbers-follow [] (b ∷ bs) (c ∷ cs) e f = refl
numbers-follow (a ∷ ms) [] cs e f = absurd (cc)
numbers-follow (a ∷ ms) (b ∷ bs) [] e f = absurd (cc)
numbers-follow (a ∷ ms) (b ∷ bs) (c ∷ cs) e f = elim (by_first a b (numbers_before ms bs) e) [
  | inl l ↦ elim (by_first b c (numbers_before bs cs) f) [
    | inl m ↦ first_less a c (numbers_before ms cs) (omega (arith, l, m))
    | inr k ↦ let same = k.0 in first_less a c (numbers_before ms cs) (omega (arith, l, same))
  ]
  | inr j ↦ elim (by_first b c (numbers_before bs cs) f) [
    | inl m ↦ let same = j.0 in first_less a c (numbers_before ms cs) (omega (arith, m, same))
    | inr k ↦ subst (λ n. (nat_lt a n || (nat_eq a n && numbers_before ms cs)) ≡ true) (j.0 ∙ k.0) (first_same a (numbers_before ms cs) (numbers-follow ms bs cs j.1 k.1))
  ]
]

-- of two lists that are not the same one stands before the other
numbers-either : (ms bs : List ℕ) → same_numbers ms bs ≡ false → numbers_before bs ms ≡ false → numbers_before ms bs ≡ true
numbers-either [] [] e f = absurd (cc)
numbers-either [] (b ∷ bs) e f = refl
numbers-either (a ∷ ms) [] e f = absurd (cc)
numbers-either (a ∷ ms) (b ∷ bs) e f = elim (cases_Bool (nat_lt a b)) [
  | inl l ↦ rw l refl
  | inr n ↦
      let m = not_left (nat_lt b a) (nat_eq b a && numbers_before bs ms) f in
      let g : a ≡ b = neither a b n m in
      let there : nat_eq a b ≡ true = subst (λ k. nat_eq a k ≡ true) g (nat_eq-itself a) in
      let back : nat_eq b a ≡ true = subst (λ k. nat_eq k a ≡ true) g (nat_eq-itself a) in
      let rest = numbers-either ms bs (no_more (nat_eq a b) (same_numbers ms bs) e there) (no_more (nat_eq b a) (numbers_before bs ms) (not_right (nat_lt b a) (nat_eq b a && numbers_before bs ms) f) back) in
      subst (λ k. (nat_lt a k || (nat_eq a k && numbers_before ms bs)) ≡ true) g (first_same a (numbers_before ms bs) rest)
]

-- ---- elements

keys-are : (cs ds : List Class) → keys cs ≡ keys ds → cs ≡ ds
keys-are [] [] e = refl
keys-are [] (d ∷ ds) e = absurd (cc)
keys-are (c ∷ cs) [] e = absurd (cc)
keys-are (c ∷ cs) (d ∷ ds) e = ap (λ x. x ∷ cs) (class_is c d (head-is e) (head-is (tail-is e))) ∙ ap (λ xs. d ∷ xs) (keys-are cs ds (tail-is (tail-is e)))
  where
    head-is : {a b : ℕ} {ms bs : List ℕ} → (a ∷ ms) ≡ (b ∷ bs) → a ≡ b
    head-is e = cc

    tail-is : {a b : ℕ} {ms bs : List ℕ} → (a ∷ ms) ≡ (b ∷ bs) → ms ≡ bs
    tail-is e = cc

    class_is : (c d : Class) → sort_of c ≡ sort_of d → number_of c ≡ number_of d → c ≡ d
    class_is (Number k) (Number l) e f = ap Number f
    class_is (Number k) (Named l) e f = absurd (omega (arith, e))
    class_is (Number k) (Rest l) e f = absurd (omega (arith, e))
    class_is (Named k) (Number l) e f = absurd (omega (arith, e))
    class_is (Named k) (Named l) e f = ap Named f
    class_is (Named k) (Rest l) e f = absurd (omega (arith, e))
    class_is (Rest k) (Number l) e f = absurd (omega (arith, e))
    class_is (Rest k) (Named l) e f = absurd (omega (arith, e))
    class_is (Rest k) (Rest l) e f = ap Rest f

pub same-is : (x y : Element) → same_element x y ≡ true → x ≡ y
same-is x y e =
    let keys_same = numbers-same (keys x.indexes) (keys y.indexes) (right_of (nat_eq x.family y.family) (same_numbers (keys x.indexes) (keys y.indexes)) e) in
    let family = nat_eq-is x.family y.family (left_of (nat_eq x.family y.family) (same_numbers (keys x.indexes) (keys y.indexes)) e) in
    ap (λ (k : ℕ). record { family = k; indexes = x.indexes }) family ∙ ap (λ (cs : List Class). record { family = y.family; indexes = cs }) (keys-are x.indexes y.indexes keys_same)

pub same-itself : (x : Element) → same_element x x ≡ true
same-itself x = numbers-itself (key x)

pub before-apart : (x : Element) → is_before x x ≡ true → ⊥
before-apart x e = numbers-apart (key x) e

pub before-follow : (x y z : Element) → is_before x y ≡ true → is_before y z ≡ true → is_before x z ≡ true
before-follow x y z e f = numbers-follow (key x) (key y) (key z) e f

pub before-either : (x y : Element) → same_element x y ≡ false → is_before y x ≡ false → is_before x y ≡ true
before-either x y e f = numbers-either (key x) (key y) e f

-- no classes and some
pub none-before : (cs ds : List Class) → length cs < 1 → 0 < length ds → true ≡ numbers_before (keys cs) (keys ds)
none-before [] [] e f = absurd (omega (arith, f))
none-before [] (d ∷ ds) e f = refl
none-before (c ∷ cs) ds e f = absurd (omega (arith, e))

pub none-same : (cs ds : List Class) → length cs < 1 → 0 < length ds → false ≡ same_numbers (keys cs) (keys ds)
none-same [] [] e f = absurd (omega (arith, f))
none-same [] (d ∷ ds) e f = refl
none-same (c ∷ cs) ds e f = absurd (omega (arith, e))
