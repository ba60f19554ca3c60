-- What holds somewhere in a list.
use Rattle.std.proofs.Common.{◌≡◌, ℕ, suc, List, [], ◌∷◌, ◌++◌, map, flat_map, Some, Bool, true, false, ◌||◌, ◌⊎◌, inl, inr, refl, slice_get}
use Rattle.std.specs.List.{AllByRecursion, list_any}

-- it holds of one in the list
abbrev pub Somewhere : {X : Type 0} → (X → Type 0) → List X → Type 0
Somewhere P [] = ⊥
Somewhere P (x ∷ xs) = P x ⊎ Somewhere P xs

pub somewhere-front : {X : Type 0} (P : X → Type 0) (xs ys : List X) → Somewhere P xs → Somewhere P (xs ++ ys)
somewhere-front P [] ys h = absurd h
somewhere-front P (x ∷ xs) ys (inl h) = inl h
somewhere-front P (x ∷ xs) ys (inr h) = inr (somewhere-front P xs ys h)

pub somewhere-behind : {X : Type 0} (P : X → Type 0) (xs ys : List X) → Somewhere P ys → Somewhere P (xs ++ ys)
somewhere-behind P [] ys h = h
somewhere-behind P (x ∷ xs) ys h = inr (somewhere-behind P xs ys h)

pub somewhere-map : {X Y : Type 0} (P : X → Type 0) (Q : Y → Type 0) (f : X → Y) → ((x : X) → P x → Q (f x)) → (xs : List X) → Somewhere P xs → Somewhere Q (map f xs)
somewhere-map P Q f h [] k = absurd k
somewhere-map P Q f h (x ∷ xs) (inl k) = inl (h x k)
somewhere-map P Q f h (x ∷ xs) (inr k) = inr (somewhere-map P Q f h xs k)

pub somewhere-more : {X : Type 0} (P Q : X → Type 0) → ((x : X) → P x → Q x) → (xs : List X) → Somewhere P xs → Somewhere Q xs
somewhere-more P Q h [] k = absurd k
somewhere-more P Q h (x ∷ xs) (inl k) = inl (h x k)
somewhere-more P Q h (x ∷ xs) (inr k) = inr (somewhere-more P Q h xs k)

-- in what one of those that pass a test gives
pub somewhere-flat_map : {X Y : Type 0} (P : Y → Type 0) (f : X → List Y) (p : X → Bool) → ((x : X) → p x ≡ true → Somewhere P (f x)) → (xs : List X) → list_any p xs ≡ true → Somewhere P (flat_map f xs)
somewhere-flat_map P f p h [] e = absurd (cc (e))
somewhere-flat_map P f p h (x ∷ xs) e = by_test (p x) refl e (somewhere-flat_map P f p h xs)
  where
    by_test : (b : Bool) → p x ≡ b → (b || list_any p xs) ≡ true → (list_any p xs ≡ true → Somewhere P (flat_map f xs)) → Somewhere P (f x ++ flat_map f xs)
    by_test true e k rest = somewhere-front P (f x) (flat_map f xs) (h x e)
    by_test false e k rest = somewhere-behind P (f x) (flat_map f xs) (rest k)

-- in what it gives, where something else holds everywhere
pub somewhere-each : {X Y : Type 0} (P Q : X → Type 0) (R : Y → Type 0) (f : X → List Y) → ((x : X) → P x → Q x → Somewhere R (f x)) → (xs : List X) → Somewhere P xs → AllByRecursion Q xs → Somewhere R (flat_map f xs)
somewhere-each P Q R f h [] k all = absurd k
somewhere-each P Q R f h (x ∷ xs) (inl k) all = somewhere-front R (f x) (flat_map f xs) (h x k all.0)
somewhere-each P Q R f h (x ∷ xs) (inr k) all = somewhere-behind R (f x) (flat_map f xs) (somewhere-each P Q R f h xs k all.1)

-- and what it holds of is there
pub somewhere-with : {X : Type 0} (P Q : X → Type 0) (xs : List X) → Somewhere P xs → AllByRecursion Q xs → (x : X) × P x × Q x
somewhere-with P Q [] k all = absurd k
somewhere-with P Q (x ∷ xs) (inl k) all = (x, k, all.0)
somewhere-with P Q (x ∷ xs) (inr k) all = somewhere-with P Q xs k all.1

-- a test finds it
pub somewhere-any : {X : Type 0} (P : X → Type 0) (p : X → Bool) → ((x : X) → P x → p x ≡ true) → (xs : List X) → Somewhere P xs → list_any p xs ≡ true
somewhere-any P p h [] k = absurd k
somewhere-any P p h (x ∷ xs) (inl k) = rw (h x k) refl
somewhere-any P p h (x ∷ xs) (inr k) = by_test (p x) (somewhere-any P p h xs k)
  where
    by_test : (b : Bool) → list_any p xs ≡ true → (b || list_any p xs) ≡ true
    by_test true e = refl
    by_test false e = e

-- it has a place
pub somewhere-place : {X : Type 0} (P : X → Type 0) (xs : List X) → Somewhere P xs → (k : ℕ) × (x : X) × (slice_get xs k ≡ Some x) × P x
somewhere-place P [] h = absurd h
somewhere-place P (x ∷ xs) (inl h) = (0, x, refl, h)
somewhere-place P (x ∷ xs) (inr h) = let r = somewhere-place P xs h in (suc r.0, r.1, r.2, r.3)
