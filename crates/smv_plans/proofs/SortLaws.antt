-- Units in the order of their places: a list that rises and has what stands at each place in one order is one.
use Rattle.std.proofs.Common.{◌≡◌, ℕ, suc, ◌<◌, ◌≤◌, List, [], ◌∷◌, ◌++◌, length, get_or, Bool, true, false, cond, ◌⊎◌, inl, inr, refl, ap, sym, ◌∙◌, arith}
use Rattle.std.specs.Prelude.{filter, reverse, nat_eq, nat_lt}
use Rattle.std.specs.List.{AllByRecursion}
use Rattle.std.specs.List.Sorted.{IsNonDecreasingBy, IsStableByKey, ties}
use Rattle.std.specs.Ordering.{is_lt, nat_cmp}
use Rattle.std.proofs.lemmas.Bool.Decides.{nat_tests}
use Rattle.std.proofs.lemmas.List.{append-nil}
use Rattle.std.proofs.lemmas.Grind.{reverse_onto}
use Rattle.law_lists.proofs.Numbers.{nat_eq-below, nat_eq-is}
use Rattle.smv_core.specs.declared.flat.Unit.{Unit as FlatUnit}
use Rattle.smv_core.specs.declared.flat.Unit.TheVariants as unit
use Rattle.law_obligations.specs.Units.{put, in_order}

abbrev Placed : Type 0
Placed = ℕ × FlatUnit

-- the unit stands at this place
abbrev at : ℕ → Placed → Bool
at k x = nat_eq k x.0

abbrev IsRising : List Placed → Type 0
IsRising [] = Unit {0}
IsRising (x ∷ xs) = AllByRecursion (λ (y : Placed). x.0 ≤ y.0) xs × IsRising xs

-- ---- what stands at a place

same-number : (k : ℕ) → nat_eq k k ≡ true
same-number k = grind (arith, nat_tests)

all-from : (a b : ℕ) (xs : List Placed) → a ≤ b → AllByRecursion (λ (y : Placed). b ≤ y.0) xs → AllByRecursion (λ (y : Placed). a ≤ y.0) xs
all-from a b [] h k = tt
all-from a b (x ∷ xs) h k = ((let le : b ≤ x.0 = k.0 in omega arith), all-from a b xs h k.1)

none-at : (k b : ℕ) (xs : List Placed) → k < b → AllByRecursion (λ (y : Placed). b ≤ y.0) xs → filter (at k) xs ≡ []
none-at k b [] h all = refl
none-at k b (x ∷ xs) h all = ap (λ t. cond t (x ∷ filter (at k) xs) (filter (at k) xs)) (nat_eq-below k x.0 (let le : b ≤ x.0 = all.0 in omega arith)) ∙ none-at k b xs h all.1

first-at : (x : Placed) (xs : List Placed) → filter (at x.0) (x ∷ xs) ≡ x ∷ filter (at x.0) xs
first-at x xs = ap (λ t. cond t (x ∷ filter (at x.0) xs) (filter (at x.0) xs)) (same-number x.0)

-- ---- one list

compare : (a b : ℕ) → (a < b) ⊎ ((b < a) ⊎ (a ≡ b))
compare a b = by (nat_lt a b) (nat_lt b a) refl refl
  where
    by : (p q : Bool) → nat_lt a b ≡ p → nat_lt b a ≡ q → (a < b) ⊎ ((b < a) ⊎ (a ≡ b))
    by true q e f = inl (grind (arith, nat_tests))
    by false true e f = inr (inl (grind (arith, nat_tests)))
    by false false e f = inr (inr (grind (arith, nat_tests)))

rest-same : (k : ℕ) (x y : Placed) (xs ys : List Placed) → x ≡ y → filter (at k) (x ∷ xs) ≡ filter (at k) (y ∷ ys) → filter (at k) xs ≡ filter (at k) ys
rest-same k x y xs ys same e = by (nat_eq k x.0) (nat_eq k y.0) (ap (λ (p : Placed). nat_eq k p.0) same) e
  where
    by : (p q : Bool) → p ≡ q → cond p (x ∷ filter (at k) xs) (filter (at k) xs) ≡ cond q (y ∷ filter (at k) ys) (filter (at k) ys) → filter (at k) xs ≡ filter (at k) ys
    by true true pq e = cc
    by true false pq e = cc
    by false true pq e = cc
    by false false pq e = e

pub one-list : (xs ys : List Placed) → IsRising xs → IsRising ys → ((k : ℕ) → filter (at k) xs ≡ filter (at k) ys) → xs ≡ ys
one-list [] [] up up_2 h = refl
one-list [] (y ∷ ys) up up_2 h = let e : [] ≡ y ∷ filter (at y.0) ys = h y.0 ∙ first-at y ys in cc
one-list (x ∷ xs) [] up up_2 h = let e : x ∷ filter (at x.0) xs ≡ [] = sym (first-at x xs) ∙ h x.0 in cc
one-list (x ∷ xs) (y ∷ ys) up up_2 h = by (compare x.0 y.0) (λ same. one-list xs ys up.1 up_2.1 (λ k. rest-same k x y xs ys same (h k)))
  where
    by : (x.0 < y.0) ⊎ ((y.0 < x.0) ⊎ (x.0 ≡ y.0)) → (x ≡ y → xs ≡ ys) → x ∷ xs ≡ y ∷ ys
    by (inl less) rest =
        let e : x ∷ filter (at x.0) xs ≡ [] = sym (first-at x xs) ∙ h x.0 ∙ none-at x.0 y.0 (y ∷ ys) less ((let le : y.0 ≤ y.0 = omega arith in le), up_2.0) in cc
    by (inr (inl less)) rest =
        let e : [] ≡ y ∷ filter (at y.0) ys = sym (none-at y.0 x.0 (x ∷ xs) less ((let le : x.0 ≤ x.0 = omega arith in le), up.0)) ∙ h y.0 ∙ first-at y ys in cc
    by (inr (inr same)) rest =
        let e : x ∷ filter (at x.0) xs ≡ y ∷ filter (at y.0) ys = sym (first-at x xs) ∙ h x.0 ∙ ap (λ k. filter (at k) (y ∷ ys)) same ∙ first-at y ys in
        let head : x ≡ y = cc in
        ap (λ z. z ∷ xs) head ∙ ap (λ l. y ∷ l) (rest head)

-- ---- putting in order

all-put : (a : ℕ) (x : Placed) (xs : List Placed) → a ≤ x.0 → AllByRecursion (λ (y : Placed). a ≤ y.0) xs → AllByRecursion (λ (y : Placed). a ≤ y.0) (put x xs)
all-put a x [] h all = (h, tt)
all-put a x (y ∷ xs) h all = by (nat_lt x.0 y.0) (all-put a x xs h all.1)
  where
    by : (t : Bool) → AllByRecursion (λ (y : Placed). a ≤ y.0) (put x xs) → AllByRecursion (λ (y : Placed). a ≤ y.0) (cond t (x ∷ y ∷ xs) (y ∷ put x xs))
    by true rest = (h, all)
    by false rest = (all.0, rest)

rising-put : (x : Placed) (xs : List Placed) → IsRising xs → IsRising (put x xs)
rising-put x [] up = (tt, tt)
rising-put x (y ∷ xs) up = by (nat_lt x.0 y.0) refl (rising-put x xs up.1)
  where
    by : (t : Bool) → nat_lt x.0 y.0 ≡ t → IsRising (put x xs) → IsRising (cond t (x ∷ y ∷ xs) (y ∷ put x xs))
    by true e rest = let le : x.0 ≤ y.0 = grind (arith, nat_tests) in ((le, all-from x.0 y.0 xs le up.0), up)
    by false e rest = let le : y.0 ≤ x.0 = grind (arith, nat_tests) in (all-put y.0 x xs le up.0, rest)

pub rising-in_order : (xs : List Placed) → IsRising (in_order xs)
rising-in_order [] = tt
rising-in_order (x ∷ xs) = rising-put x (in_order xs) (rising-in_order xs)

filter-append : (k : ℕ) (xs ys : List Placed) → filter (at k) (xs ++ ys) ≡ filter (at k) xs ++ filter (at k) ys
filter-append k [] ys = refl
filter-append k (x ∷ xs) ys = by (nat_eq k x.0) (filter-append k xs ys)
  where
    by : (t : Bool) → filter (at k) (xs ++ ys) ≡ filter (at k) xs ++ filter (at k) ys → cond t (x ∷ filter (at k) (xs ++ ys)) (filter (at k) (xs ++ ys)) ≡ cond t (x ∷ filter (at k) xs) (filter (at k) xs) ++ filter (at k) ys
    by true rest = ap (λ l. x ∷ l) rest
    by false rest = rest

put-at : (k : ℕ) (x : Placed) (xs : List Placed) → IsRising xs → filter (at k) (put x xs) ≡ filter (at k) xs ++ filter (at k) (x ∷ [])
put-at k x [] up = refl
put-at k x (y ∷ xs) up = by (nat_lt x.0 y.0) refl (put-at k x xs up.1)
  where
    by_place : (t : Bool) → nat_eq k x.0 ≡ t → x.0 < y.0 → cond t (x ∷ filter (at k) (y ∷ xs)) (filter (at k) (y ∷ xs)) ≡ filter (at k) (y ∷ xs) ++ cond t (x ∷ []) []
    by_place true e less =
        let same : k ≡ x.0 = nat_eq-is k x.0 e in
        let none : filter (at k) (y ∷ xs) ≡ [] = none-at k y.0 (y ∷ xs) (omega arith) ((let le : y.0 ≤ y.0 = omega arith in le), up.0) in
        ap (λ l. x ∷ l) none ∙ sym (ap (λ l. l ++ x ∷ []) none)
    by_place false e less = sym (append-nil (filter (at k) (y ∷ xs)))

    by_first : (t : Bool) → filter (at k) (put x xs) ≡ filter (at k) xs ++ filter (at k) (x ∷ []) → cond t (y ∷ filter (at k) (put x xs)) (filter (at k) (put x xs)) ≡ cond t (y ∷ filter (at k) xs) (filter (at k) xs) ++ filter (at k) (x ∷ [])
    by_first true rest = ap (λ l. y ∷ l) rest
    by_first false rest = rest

    by : (t : Bool) → nat_lt x.0 y.0 ≡ t → filter (at k) (put x xs) ≡ filter (at k) xs ++ filter (at k) (x ∷ []) → filter (at k) (cond t (x ∷ y ∷ xs) (y ∷ put x xs)) ≡ filter (at k) (y ∷ xs) ++ filter (at k) (x ∷ [])
    by true e rest = by_place (nat_eq k x.0) refl (let less : x.0 < y.0 = grind (arith, nat_tests) in less)
    by false e rest = by_first (nat_eq k y.0) rest

-- what stands at one place stands in the other order
in_order-at : (k : ℕ) (xs : List Placed) → filter (at k) (in_order xs) ≡ filter (at k) (reverse xs)
in_order-at k [] = refl
in_order-at k (x ∷ xs) =
    put-at k x (in_order xs) (rising-in_order xs) ∙ ap (λ l. l ++ filter (at k) (x ∷ [])) (in_order-at k xs) ∙ sym (filter-append k (reverse xs) (x ∷ []))
    ∙ ap (filter (at k)) (sym (reverse_onto xs x []))

-- ---- what a sort gives

rising-from : (xs : List Placed) → IsNonDecreasingBy (λ (x : Placed). x.0) xs → IsRising xs
rising-from [] h = tt
rising-from (x ∷ xs) h = (each x.0 xs (λ j lt. h 0 (suc j) x (omega arith) (omega arith)), rising-from xs (λ i j d le lt. h (suc i) (suc j) d (omega arith) (omega arith)))
  where
    each : (a : ℕ) (ys : List Placed) → ((j : ℕ) → j < length ys → a ≤ (get_or ys j x).0) → AllByRecursion (λ (y : Placed). a ≤ y.0) ys
    each a [] h = tt
    each a (y ∷ ys) h = (h 0 (omega arith), each a ys (λ j lt. h (suc j) (omega arith)))

tie : (k : ℕ) (u : FlatUnit) (y : Placed) → ties (λ (a b : Placed). is_lt (nat_cmp a.0 b.0)) (k, u) y ≡ at k y
tie k u y = grind (arith, nat_tests)

same-test : (p q : Placed → Bool) → ((x : Placed) → p x ≡ q x) → (xs : List Placed) → filter p xs ≡ filter q xs
same-test p q h [] = refl
same-test p q h (x ∷ xs) = ap (λ t. cond t (x ∷ filter p xs) (filter p xs)) (h x) ∙ ap (λ l. cond (q x) (x ∷ l) l) (same-test p q h xs)

-- a stable sort of the list from its end to its front
pub sorted : (xs ys : List Placed) → IsNonDecreasingBy (λ (x : Placed). x.0) ys → IsStableByKey (λ (x : Placed). x.0) nat_cmp (reverse xs) ys → ys ≡ in_order xs
sorted xs ys up stable = one-list ys (in_order xs) (rising-from ys up) (rising-in_order xs) at_each
  where
    at_each : (k : ℕ) → filter (at k) ys ≡ filter (at k) (in_order xs)
    at_each k =
        let x : Placed = (k, unit.Map 0) in
        same-test (at k) (ties (λ (a b : Placed). is_lt (nat_cmp a.0 b.0)) x) (λ y. sym (tie k (unit.Map 0) y)) ys ∙ stable x
        ∙ same-test (ties (λ (a b : Placed). is_lt (nat_cmp a.0 b.0)) x) (at k) (tie k (unit.Map 0)) (reverse xs) ∙ sym (in_order-at k xs)
