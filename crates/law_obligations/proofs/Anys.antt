-- Tests of some member of lists that are made of lists.
use Rattle.std.proofs.Common.{◌≡◌, List, [], ◌∷◌, map, Bool, true, false, ◌&&◌, ◌||◌, refl, ap, ◌∙◌}
use Rattle.std.specs.List.{list_any}
use Rattle.law_lists.proofs.Anys.{any-map, any-flat_map, any-agree}
use Rattle.law_obligations.specs.Sets.{one_of_each}
use Rattle.law_obligations.specs.Mix.{is_there}

pub any-and : {X : Type 0} (b : Bool) (p : X → Bool) (xs : List X) → list_any (λ x. b && p x) xs ≡ (b && list_any p xs)
any-and b p [] = at b
  where
    at : (b : Bool) → false ≡ (b && false)
    at true = refl
    at false = refl
any-and true p (x ∷ xs) = ap (λ b. p x || b) (any-and true p xs)
any-and false p (x ∷ xs) = any-and false p xs

pub any-and_right : {X : Type 0} (p : X → Bool) (b : Bool) (xs : List X) → list_any (λ x. p x && b) xs ≡ (list_any p xs && b)
any-and_right p b [] = refl
any-and_right p b (x ∷ xs) = at (p x) b _ _ (any-and_right p b xs)
  where
    at : (c b d e : Bool) → d ≡ (e && b) → ((c && b) || d) ≡ ((c || e) && b)
    at true true d e q = refl
    at true false d true q = q
    at true false d false q = q
    at false b d e q = q

-- a test of both of a pair, and of one of it
pub any-pairs : {X Y : Type 0} (p : X → Bool) (q : Y → Bool) (xs : List X) (ys : List Y) → list_any (λ x. list_any (λ y. p x && q y) ys) xs ≡ (list_any p xs && list_any q ys)
any-pairs p q xs ys = any-agree (λ x. list_any (λ y. p x && q y) ys) (λ x. p x && list_any q ys) xs (λ x. any-and (p x) q ys) ∙ any-and_right p (list_any q ys) xs

pub any-first : {X Y : Type 0} (p : X → Bool) (xs : List X) (ys : List Y) → list_any (λ x. list_any (λ y. p x) ys) xs ≡ (list_any p xs && is_there ys)
any-first p xs ys = any-agree (λ x. list_any (λ y. p x) ys) (λ x. p x && is_there ys) xs (λ x. each (p x) ys) ∙ any-and_right p (is_there ys) xs
  where
    each : {Y : Type 0} (b : Bool) (ys : List Y) → list_any (λ y. b) ys ≡ (b && is_there ys)
    each true [] = refl
    each false [] = refl
    each true (y ∷ ys) = refl
    each false (y ∷ []) = refl
    each false (y ∷ (z ∷ ys)) = each false (z ∷ ys)

pub any-second : {X Y : Type 0} (q : Y → Bool) (xs : List X) (ys : List Y) → list_any (λ x. list_any q ys) xs ≡ (is_there xs && list_any q ys)
any-second q [] ys = refl
any-second q (x ∷ []) ys = at (list_any q ys)
  where
    at : (b : Bool) → (b || false) ≡ b
    at true = refl
    at false = refl
any-second q (x ∷ (z ∷ xs)) ys = at (list_any q ys) (any-second q (z ∷ xs) ys)
  where
    at : (b : Bool) {c : Bool} → c ≡ b → (b || c) ≡ b
    at true e = refl
    at false e = e

pub any-choices : {X : Type 0} (p : List X → Bool) (xs : List X) (xss : List (List X)) → list_any p (one_of_each (xs ∷ xss)) ≡ list_any (λ x. list_any (λ ys. p (x ∷ ys)) (one_of_each xss)) xs
any-choices {X} p xs xss = any-flat_map p (λ x. map (λ ys. x ∷ ys) (one_of_each xss)) xs ∙ any-agree (λ x. list_any p (map (λ ys. x ∷ ys) (one_of_each xss))) (λ x. list_any (λ ys. p (x ∷ ys)) (one_of_each xss)) xs (λ x. any-map p (λ ys. x ∷ ys) (one_of_each xss))
