-- A walk along a list up to the first member that passes a test.
use Rattle.std.proofs.Common.{◌≡◌, ◌+◌, ◌<◌, ◌≤◌, ℕ, List, [], ◌∷◌, length, drop, get_or, Bool, true, false, ◌||◌, refl, sym, ap, ◌∙◌}
use Rattle.std.specs.List.{list_any}
use Rattle.law_lists.proofs.Places.{drop_past, drop_read_one}

-- some member from a place on passes exactly where some member does
abbrev pub IsPassed : {X : Type 0} → (X → Bool) → List X → ℕ → Type 0
IsPassed test xs place = list_any test (drop place xs) ≡ list_any test xs

pub passed-none : {X : Type 0} (test : X → Bool) (xs : List X) → IsPassed test xs 0
passed-none test [] = refl
passed-none test (x ∷ xs) = refl

pub passed-more : {X : Type 0} (test : X → Bool) (xs : List X) (place : ℕ) (x : X) → place < length xs → x ≡ get_or xs place x → test x ≡ false → IsPassed test xs place → IsPassed test xs (place + 1)
passed-more test xs place x l e fails p = sym (ap (list_any test) (drop_read_one xs place x l e) ∙ ap (λ b. b || list_any test (drop (place + 1) xs)) fails) ∙ p

pub passed-here : {X : Type 0} (test : X → Bool) (xs : List X) (place : ℕ) (x : X) → place < length xs → x ≡ get_or xs place x → test x ≡ true → IsPassed test xs place → list_any test xs ≡ true
passed-here test xs place x l e passes p = sym p ∙ (ap (list_any test) (drop_read_one xs place x l e) ∙ ap (λ b. b || list_any test (drop (place + 1) xs)) passes)

pub passed-all : {X : Type 0} (test : X → Bool) (xs : List X) (place : ℕ) → length xs ≤ place → IsPassed test xs place → list_any test xs ≡ false
passed-all test xs place l p = sym p ∙ ap (list_any test) (drop_past xs place l)
