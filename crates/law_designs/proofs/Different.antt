-- What is in a list is in the list of its different elements.
use Rattle.std.proofs.Common.{◌≡◌, List, [], ◌∷◌, filter, Bool, true, false, cond, not, ◌||◌, Decides, refl, sym, ap, ◌∙◌}
use Rattle.std.specs.List.{list_any}
use Rattle.law_designs.specs.Flattening.{different}

module _ {X : Type 0} (same : X → X → Bool) (decides : (a b : X) → Decides (same a b) (a ≡ b)) where
  filter-keeps : (a x : X) → same a x ≡ false → (ys : List X) → list_any (same a) ys ≡ true → list_any (same a) (filter (λ y. not (same x y)) ys) ≡ true
  filter-keeps a x apart [] e = absurd (cc)
  filter-keeps a x apart (y ∷ ys) e = by_tests (same a y) (same x y) refl refl e (filter-keeps a x apart ys)
    where
      by_tests : (b c : Bool) → same a y ≡ b → same x y ≡ c → (b || list_any (same a) ys) ≡ true → (list_any (same a) ys ≡ true → list_any (same a) (filter (λ y. not (same x y)) ys) ≡ true) →
          list_any (same a) (cond (not c) (y ∷ filter (λ y. not (same x y)) ys) (filter (λ y. not (same x y)) ys)) ≡ true
      by_tests true true h k e rest =
          let equal : same a x ≡ true = (decides a x).1 ((decides a y).0 h ∙ sym ((decides x y).0 k)) in
          absurd (cc (equal, apart))
      by_tests true false h k e rest = ap (λ b. b || list_any (same a) (filter (λ y. not (same x y)) ys)) h
      by_tests false true h k e rest = rest e
      by_tests false false h k e rest = ap (λ b. b || list_any (same a) (filter (λ y. not (same x y)) ys)) h ∙ rest e

  pub different-keeps : (a : X) (xs : List X) → list_any (same a) xs ≡ true → list_any (same a) (different same xs) ≡ true
  different-keeps a [] e = e
  different-keeps a (x ∷ xs) e = by_test (same a x) refl e (different-keeps a xs)
    where
      by_test : (b : Bool) → same a x ≡ b → (b || list_any (same a) xs) ≡ true → (list_any (same a) xs ≡ true → list_any (same a) (different same xs) ≡ true) →
          (b || list_any (same a) (filter (λ y. not (same x y)) (different same xs))) ≡ true
      by_test true h e rest = refl
      by_test false h e rest = filter-keeps a x h (different same xs) (rest e)
