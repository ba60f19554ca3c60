-- Warnings in the order of their places: a list that rises and has what stands at each place in one order is one.
use Rattle.std.proofs.Common.{◌≡◌, ℕ, suc, ◌<◌, ◌≤◌, List, [], ◌∷◌, length, get_or, Bool, true, false, cond, ◌⊎◌, inl, inr, refl, ap, sym, ◌∙◌, arith}
use Rattle.std.specs.Prelude.{filter, nat_eq, nat_lt}
use Rattle.std.specs.List.{AllByRecursion}
use Rattle.std.specs.List.Sorted.{IsNonDecreasingBy, IsStableByKey, ties}
use Rattle.std.specs.Ordering.{is_lt, nat_cmp}
use Rattle.std.proofs.lemmas.Bool.Decides.{nat_tests}
use Rattle.law_lists.proofs.Numbers.{nat_eq-below, nat_eq-is, nat_lt-is}
use Rattle.smv_look_lint.specs.declared.warnings.Flaw.TheVariants.{Unread}
use Rattle.smv_look_lint.specs.declared.warnings.Warning.{Warning}
use Rattle.smv_look_lint.specs.Lint.{put, in_order}

-- the warning stands at this place
abbrev at : ℕ → Warning → Bool
at k w = nat_eq k w.at

abbrev IsRising : List Warning → Type 0
IsRising [] = Unit {0}
IsRising (x ∷ xs) = AllByRecursion (λ (y : Warning). x.at ≤ y.at) xs × IsRising xs

-- ---- what stands at a place

same-number : (k : ℕ) → nat_eq k k ≡ true
same-number k = grind (arith, nat_tests)

all-from : (a b : ℕ) (xs : List Warning) → a ≤ b → AllByRecursion (λ (y : Warning). b ≤ y.at) xs → AllByRecursion (λ (y : Warning). a ≤ y.at) xs
all-from a b [] h k = tt
all-from a b (x ∷ xs) h k = ((let le : b ≤ x.at = k.0 in omega arith), all-from a b xs h k.1)

none-at : (k b : ℕ) (xs : List Warning) → k < b → AllByRecursion (λ (y : Warning). b ≤ y.at) xs → filter (at k) xs ≡ []
none-at k b [] h all = refl
none-at k b (x ∷ xs) h all = ap (λ t. cond t (x ∷ filter (at k) xs) (filter (at k) xs)) (nat_eq-below k x.at (let le : b ≤ x.at = all.0 in omega arith)) ∙ none-at k b xs h all.1

first-at : (x : Warning) (xs : List Warning) → filter (at x.at) (x ∷ xs) ≡ x ∷ filter (at x.at) xs
first-at x xs = ap (λ t. cond t (x ∷ filter (at x.at) xs) (filter (at x.at) xs)) (same-number x.at)

-- ---- one list

compare : (a b : ℕ) → (a < b) ⊎ ((b < a) ⊎ (a ≡ b))
compare a b = by (nat_lt a b) (nat_lt b a) refl refl
  where
    by : (p q : Bool) → nat_lt a b ≡ p → nat_lt b a ≡ q → (a < b) ⊎ ((b < a) ⊎ (a ≡ b))
    by true q e f = inl (grind (arith, nat_tests))
    by false true e f = inr (inl (grind (arith, nat_tests)))
    by false false e f = inr (inr (grind (arith, nat_tests)))

rest-same : (k : ℕ) (x y : Warning) (xs ys : List Warning) → x ≡ y → filter (at k) (x ∷ xs) ≡ filter (at k) (y ∷ ys) → filter (at k) xs ≡ filter (at k) ys
rest-same k x y xs ys same e = by (nat_eq k x.at) (nat_eq k y.at) (ap (λ (p : Warning). nat_eq k p.at) same) e
  where
    by : (p q : Bool) → p ≡ q → cond p (x ∷ filter (at k) xs) (filter (at k) xs) ≡ cond q (y ∷ filter (at k) ys) (filter (at k) ys) → filter (at k) xs ≡ filter (at k) ys
    by true true pq e = cc
    by true false pq e = cc
    by false true pq e = cc
    by false false pq e = e

one-list : (xs ys : List Warning) → IsRising xs → IsRising ys → ((k : ℕ) → filter (at k) xs ≡ filter (at k) ys) → xs ≡ ys
one-list [] [] up up_2 h = refl
one-list [] (y ∷ ys) up up_2 h = let e : [] ≡ y ∷ filter (at y.at) ys = h y.at ∙ first-at y ys in cc
one-list (x ∷ xs) [] up up_2 h = let e : x ∷ filter (at x.at) xs ≡ [] = sym (first-at x xs) ∙ h x.at in cc
one-list (x ∷ xs) (y ∷ ys) up up_2 h = by (compare x.at y.at) (λ same. one-list xs ys up.1 up_2.1 (λ k. rest-same k x y xs ys same (h k)))
  where
    by : (x.at < y.at) ⊎ ((y.at < x.at) ⊎ (x.at ≡ y.at)) → (x ≡ y → xs ≡ ys) → x ∷ xs ≡ y ∷ ys
    by (inl less) rest =
        let e : x ∷ filter (at x.at) xs ≡ [] = sym (first-at x xs) ∙ h x.at ∙ none-at x.at y.at (y ∷ ys) less ((let le : y.at ≤ y.at = omega arith in le), up_2.0) in cc
    by (inr (inl less)) rest =
        let e : [] ≡ y ∷ filter (at y.at) ys = sym (none-at y.at x.at (x ∷ xs) less ((let le : x.at ≤ x.at = omega arith in le), up.0)) ∙ h y.at ∙ first-at y ys in cc
    by (inr (inr same)) rest =
        let e : x ∷ filter (at x.at) xs ≡ y ∷ filter (at y.at) ys = sym (first-at x xs) ∙ h x.at ∙ ap (λ k. filter (at k) (y ∷ ys)) same ∙ first-at y ys in
        let head : x ≡ y = cc in
        ap (λ z. z ∷ xs) head ∙ ap (λ l. y ∷ l) (rest head)

-- ---- putting in order

all-put : (a : ℕ) (x : Warning) (xs : List Warning) → a ≤ x.at → AllByRecursion (λ (y : Warning). a ≤ y.at) xs → AllByRecursion (λ (y : Warning). a ≤ y.at) (put x xs)
all-put a x [] h all = (h, tt)
all-put a x (y ∷ xs) h all = by (nat_lt y.at x.at) (all-put a x xs h all.1)
  where
    by : (t : Bool) → AllByRecursion (λ (y : Warning). a ≤ y.at) (put x xs) → AllByRecursion (λ (y : Warning). a ≤ y.at) (cond t (y ∷ put x xs) (x ∷ y ∷ xs))
    by true rest = (all.0, rest)
    by false rest = (h, all)

rising-put : (x : Warning) (xs : List Warning) → IsRising xs → IsRising (put x xs)
rising-put x [] up = (tt, tt)
rising-put x (y ∷ xs) up = by (nat_lt y.at x.at) refl (rising-put x xs up.1)
  where
    by : (t : Bool) → nat_lt y.at x.at ≡ t → IsRising (put x xs) → IsRising (cond t (y ∷ put x xs) (x ∷ y ∷ xs))
    by true e rest = let le : y.at ≤ x.at = grind (arith, nat_tests) in (all-put y.at x xs le up.0, rest)
    by false e rest = let le : x.at ≤ y.at = grind (arith, nat_tests) in ((le, all-from x.at y.at xs le up.0), up)

rising-in_order : (xs : List Warning) → IsRising (in_order xs)
rising-in_order [] = tt
rising-in_order (x ∷ xs) = rising-put x (in_order xs) (rising-in_order xs)

apart : (k a b : ℕ) → nat_eq k a ≡ true → a < b → nat_eq k b ≡ false
apart k a b e less = nat_eq-below k b (let same : k ≡ a = nat_eq-is k a e in omega arith)

-- two that stand at different places, before the same others
past : (k : ℕ) (x y : Warning) (l : List Warning) (p q : Bool) → nat_eq k y.at ≡ p → nat_eq k x.at ≡ q → y.at < x.at → cond p (y ∷ cond q (x ∷ l) l) (cond q (x ∷ l) l) ≡ cond q (x ∷ cond p (y ∷ l) l) (cond p (y ∷ l) l)
past k x y l true true e f less = let never : true ≡ false = sym f ∙ apart k y.at x.at e less in cc
past k x y l true false e f less = refl
past k x y l false q e f less = refl

put-at : (k : ℕ) (x : Warning) (xs : List Warning) → filter (at k) (put x xs) ≡ filter (at k) (x ∷ xs)
put-at k x [] = refl
put-at k x (y ∷ xs) = by (nat_lt y.at x.at) refl (put-at k x xs)
  where
    by : (t : Bool) → nat_lt y.at x.at ≡ t → filter (at k) (put x xs) ≡ filter (at k) (x ∷ xs) → filter (at k) (cond t (y ∷ put x xs) (x ∷ y ∷ xs)) ≡ filter (at k) (x ∷ y ∷ xs)
    by true e rest = ap (λ (l : List Warning). cond (nat_eq k y.at) (y ∷ l) l) rest ∙ past k x y (filter (at k) xs) (nat_eq k y.at) (nat_eq k x.at) refl refl (nat_lt-is y.at x.at e)
    by false e rest = refl

-- what stands at one place stands as it stood
in_order-at : (k : ℕ) (xs : List Warning) → filter (at k) (in_order xs) ≡ filter (at k) xs
in_order-at k [] = refl
in_order-at k (x ∷ xs) = put-at k x (in_order xs) ∙ ap (λ l. cond (nat_eq k x.at) (x ∷ l) l) (in_order-at k xs)

-- ---- what a sort gives

rising-from : (xs : List Warning) → IsNonDecreasingBy (λ (x : Warning). x.at) xs → IsRising xs
rising-from [] h = tt
rising-from (x ∷ xs) h = (each x.at xs (λ j lt. h 0 (suc j) x (omega arith) (omega arith)), rising-from xs (λ i j d le lt. h (suc i) (suc j) d (omega arith) (omega arith)))
  where
    each : (a : ℕ) (ys : List Warning) → ((j : ℕ) → j < length ys → a ≤ (get_or ys j x).at) → AllByRecursion (λ (y : Warning). a ≤ y.at) ys
    each a [] h = tt
    each a (y ∷ ys) h = (h 0 (omega arith), each a ys (λ j lt. h (suc j) (omega arith)))

-- a warning at this place
abbrev placed : ℕ → Warning
placed k = record { family = 0; flaw = Unread; at = k }

tie : (k : ℕ) (y : Warning) → ties (λ (a b : Warning). is_lt (nat_cmp a.at b.at)) (placed k) y ≡ at k y
tie k y = grind (arith, nat_tests)

same-test : (p q : Warning → Bool) → ((x : Warning) → p x ≡ q x) → (xs : List Warning) → filter p xs ≡ filter q xs
same-test p q h [] = refl
same-test p q h (x ∷ xs) = ap (λ t. cond t (x ∷ filter p xs) (filter p xs)) (h x) ∙ ap (λ l. cond (q x) (x ∷ l) l) (same-test p q h xs)

-- a stable sort
pub sorted : (xs ys : List Warning) → IsNonDecreasingBy (λ (x : Warning). x.at) ys → IsStableByKey (λ (x : Warning). x.at) nat_cmp xs ys → ys ≡ in_order xs
sorted xs ys up stable = one-list ys (in_order xs) (rising-from ys up) (rising-in_order xs) at_each
  where
    at_each : (k : ℕ) → filter (at k) ys ≡ filter (at k) (in_order xs)
    at_each k =
        same-test (at k) (ties (λ (a b : Warning). is_lt (nat_cmp a.at b.at)) (placed k)) (λ y. sym (tie k y)) ys ∙ stable (placed k)
        ∙ same-test (ties (λ (a b : Warning). is_lt (nat_cmp a.at b.at)) (placed k)) (at k) (tie k) xs ∙ sym (in_order-at k xs)
