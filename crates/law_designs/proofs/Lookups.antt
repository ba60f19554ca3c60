-- What is found in lists by place and by test, and how two maps or filters agree.
use Rattle.std.proofs.Common.{◌≡◌, ℕ, ◌+◌, List, [], ◌∷◌, ◌++◌, find, length, nat_eq, slice_get, Some, All, Bool, true, false, cond, not, ◌||◌, refl, sym, ap, ◌∙◌, subst, arith}
use Rattle.std.specs.List.{list_any, position_or_len}
use Rattle.std.proofs.lemmas.Bool.{eq-eqb, eqb-true}
use Rattle.std.proofs.lemmas.List.Elements.{All-head, All-tail}
use Rattle.law_lists.proofs.Booleans.{same_tests}

-- what a list has at a place behind another list
pub slice_get-behind : {X : Type 0} (xs : List X) (x : X) (more : List X) → slice_get (xs ++ x ∷ more) (length xs) ≡ Some x
slice_get-behind [] x more = refl
slice_get-behind (y ∷ xs) x more = slice_get-behind xs x more

-- what is found passes
pub find-passes : {X : Type 0} (p : X → Bool) (xs : List X) (x : X) → find p xs ≡ Some x → p x ≡ true
find-passes p [] x e = absurd (cc)
find-passes {X} p (y ∷ ys) x e = by_test (p y) refl e (find-passes p ys x)
  where
    by_test : (b : Bool) → p y ≡ b → cond b (Some y) (find p ys) ≡ Some x → (find p ys ≡ Some x → p x ≡ true) → p x ≡ true
    by_test true h e rest = let q : y ≡ x = cc in subst (λ z. p z ≡ true) q h
    by_test false h e rest = rest e

-- where some element passes one is found
pub any-found : {X : Type 0} (p : X → Bool) (xs : List X) → list_any p xs ≡ true → (x : X) × (find p xs ≡ Some x)
any-found p [] e = absurd (cc)
any-found {X} p (y ∷ ys) e = by_test (p y) e (any-found p ys)
  where
    by_test : (b : Bool) → (b || list_any p ys) ≡ true → (list_any p ys ≡ true → (x : X) × (find p ys ≡ Some x)) → (x : X) × (cond b (Some y) (find p ys) ≡ Some x)
    by_test true e rest = (y, refl)
    by_test false e rest = rest e

-- what holds of each element holds of what is found
pub all-found : {X : Type 0} (P : X → Type 0) (p : X → Bool) (xs : List X) (x : X) → All P xs → find p xs ≡ Some x → P x
all-found P p [] x h e = absurd (cc)
all-found {X} P p (y ∷ ys) x h e = by_test (p y) e (all-found P p ys x (All-tail P y ys h))
  where
    by_test : (b : Bool) → cond b (Some y) (find p ys) ≡ Some x → (find p ys ≡ Some x → P x) → P x
    by_test true e rest = let q : y ≡ x = cc in subst P q (All-head P y ys h)
    by_test false e rest = rest e

-- what is found passes, so some element passes
pub found-any : {X : Type 0} (p : X → Bool) (xs : List X) (x : X) → find p xs ≡ Some x → list_any p xs ≡ true
found-any p [] x e = absurd (cc)
found-any {X} p (y ∷ ys) x e = by_test (p y) e (found-any p ys x)
  where
    by_test : (b : Bool) → cond b (Some y) (find p ys) ≡ Some x → (find p ys ≡ Some x → list_any p ys ≡ true) → (b || list_any p ys) ≡ true
    by_test true e rest = refl
    by_test false e rest = rest e

pub any-front : {X : Type 0} (p : X → Bool) (xs ys : List X) → list_any p xs ≡ true → list_any p (xs ++ ys) ≡ true
any-front p [] ys e = absurd (cc)
any-front {X} p (x ∷ xs) ys e = by_test (p x) e (any-front p xs ys)
  where
    by_test : (b : Bool) → (b || list_any p xs) ≡ true → (list_any p xs ≡ true → list_any p (xs ++ ys) ≡ true) → (b || list_any p (xs ++ ys)) ≡ true
    by_test true e rest = refl
    by_test false e rest = rest e

pub any-behind : {X : Type 0} (p : X → Bool) (xs ys : List X) → list_any p ys ≡ true → list_any p (xs ++ ys) ≡ true
any-behind p [] ys e = e
any-behind {X} p (x ∷ xs) ys e = by_test (p x) (any-behind p xs ys e)
  where
    by_test : (b : Bool) → list_any p (xs ++ ys) ≡ true → (b || list_any p (xs ++ ys)) ≡ true
    by_test true h = refl
    by_test false h = h

-- ---- first places

pub nat_eq-shift : (a b : ℕ) → nat_eq (1 + a) (1 + b) ≡ nat_eq a b
nat_eq-shift a b = same_tests (nat_eq (1 + a) (1 + b)) (nat_eq a b)
    (λ e. let g : 1 + a ≡ 1 + b = eqb-true (1 + a) (1 + b) e in eq-eqb a b (omega (arith, g)))
    (λ e. eq-eqb (1 + a) (1 + b) (ap (λ k. 1 + k) (eqb-true a b e)))

pub nat_eq-first : (a : ℕ) → nat_eq 0 (1 + a) ≡ false
nat_eq-first a = same_tests (nat_eq 0 (1 + a)) false (λ e. let g : 0 ≡ 1 + a = eqb-true 0 (1 + a) e in absurd (omega (arith, g))) (λ e. absurd (cc (e)))

pub nat_eq-second : (a : ℕ) → nat_eq (1 + a) 0 ≡ false
nat_eq-second a = same_tests (nat_eq (1 + a) 0) false (λ e. let g : 1 + a ≡ 0 = eqb-true (1 + a) 0 e in absurd (omega (arith, g))) (λ e. absurd (cc (e)))

-- Two tests have one first place exactly where r is true, if some element passes the second: where both pass r is true, and where one passes it is false.
pub places-same : {X : Type 0} (p q : X → Bool) (r : Bool) → ((x : X) → p x ≡ true → q x ≡ true → r ≡ true) → ((x : X) → p x ≡ true → q x ≡ false → r ≡ false) → ((x : X) → p x ≡ false → q x ≡ true → r ≡ false) →
    (xs : List X) → list_any q xs ≡ true → nat_eq (position_or_len p xs) (position_or_len q xs) ≡ r
places-same p q r both one other [] e = absurd (cc)
places-same {X} p q r both one other (x ∷ xs) e = by_tests (p x) (q x) refl refl e (places-same p q r both one other xs)
  where
    by_tests : (b c : Bool) → p x ≡ b → q x ≡ c → (c || list_any q xs) ≡ true → (list_any q xs ≡ true → nat_eq (position_or_len p xs) (position_or_len q xs) ≡ r) →
        nat_eq (cond (not b) (1 + position_or_len p xs) 0) (cond (not c) (1 + position_or_len q xs) 0) ≡ r
    by_tests true true h k e rest = sym (both x h k)
    by_tests true false h k e rest = nat_eq-first (position_or_len q xs) ∙ sym (one x h k)
    by_tests false true h k e rest = nat_eq-second (position_or_len p xs) ∙ sym (other x h k)
    by_tests false false h k e rest = nat_eq-shift (position_or_len p xs) (position_or_len q xs) ∙ rest e
