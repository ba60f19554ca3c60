-- No two definitions of a design are of one family in one definition set.
use Rattle.std.proofs.Common.{◌≡◌, List, [], ◌∷◌, map, filter, Bool, true, false, not, ◌&&◌, ◌||◌, cond, refl, ap, ◌∙◌, arith}
use Rattle.std.specs.List.{list_any}
use Rattle.law_lists.proofs.Numbers.{nat_eq-turned}
use Rattle.smv_core.specs.declared.flat.FlatText.{FlatText}
use Rattle.law_designs.specs.Flattening.{different}
use Rattle.law_designs.specs.WholeText.{is_one_layer}
use Rattle.law_designs.specs.Definitions.{Head, same_definition, first_heads, def_of, design_of_flat_text}
use Rattle.law_designs.specs.Laws.{is_of_family, AreApart}

module _ {X : Type 0} (same : X → X → Bool) where
  abbrev pub Different : List X → Type 0
  Different [] = Unit {0}
  Different (x ∷ xs) = (list_any (same x) xs ≡ false) × Different xs

  -- what is left of a list has no more than the list
  filter-none : (p q : X → Bool) (xs : List X) → list_any q xs ≡ false → list_any q (filter p xs) ≡ false
  filter-none p q [] e = refl
  filter-none p q (x ∷ xs) e = by_tests (p x) (q x) refl e (filter-none p q xs)
    where
      by_tests : (b c : Bool) → q x ≡ c → (c || list_any q xs) ≡ false → (list_any q xs ≡ false → list_any q (filter p xs) ≡ false) → list_any q (cond b (x ∷ filter p xs) (filter p xs)) ≡ false
      by_tests b true h e rest = absurd (cc (e))
      by_tests true false h e rest = ap (λ c. c || list_any q (filter p xs)) h ∙ rest e
      by_tests false false h e rest = rest e

  filter-different : (p : X → Bool) (xs : List X) → Different xs → Different (filter p xs)
  filter-different p [] h = tt
  filter-different p (x ∷ xs) h = by_test (p x) (filter-different p xs h.1)
    where
      by_test : (b : Bool) → Different (filter p xs) → Different (cond b (x ∷ filter p xs) (filter p xs))
      by_test true rest = (filter-none p (same x) xs h.0, rest)
      by_test false rest = rest

  -- no element that is the same stays
  none-same : (x : X) (xs : List X) → list_any (same x) (filter (λ y. not (same x y)) xs) ≡ false
  none-same x [] = refl
  none-same x (y ∷ ys) = by_test (same x y) refl (none-same x ys)
    where
      by_test : (b : Bool) → same x y ≡ b → list_any (same x) (filter (λ y. not (same x y)) ys) ≡ false → list_any (same x) (cond (not b) (y ∷ filter (λ y. not (same x y)) ys) (filter (λ y. not (same x y)) ys)) ≡ false
      by_test true h rest = rest
      by_test false h rest = ap (λ c. c || list_any (same x) (filter (λ y. not (same x y)) ys)) h ∙ rest

  pub are-different : (xs : List X) → Different (different same xs)
  are-different [] = tt
  are-different (x ∷ xs) = (none-same x (different same xs), filter-different (λ y. not (same x y)) (different same xs) (are-different xs))

module _ (flat_text : FlatText) where
  one-same : (h g : Head) → is_of_family h.layer h.family (def_of flat_text g) ≡ same_definition h g
  one-same h g = ap (λ b. is_one_layer h.layer g.layer && b) (nat_eq-turned g.family h.family)

  any-same : (h : Head) (heads : List Head) → list_any (is_of_family h.layer h.family) (map (def_of flat_text) heads) ≡ list_any (same_definition h) heads
  any-same h [] = refl
  any-same h (g ∷ heads) = or-same _ (same_definition h g) _ (list_any (same_definition h) heads) (one-same h g) (any-same h heads)
    where
      or-same : (a b c d : Bool) → a ≡ b → c ≡ d → (a || c) ≡ (b || d)
      or-same a b c d p q = rw (p, q) refl

  defs-apart : (heads : List Head) → Different same_definition heads → AreApart (map (def_of flat_text) heads)
  defs-apart [] h = tt
  defs-apart (g ∷ heads) h = (any-same g heads ∙ h.0, defs-apart heads h.1)

  pub apart : AreApart (design_of_flat_text flat_text).defs
  apart = defs-apart (first_heads flat_text) (are-different same_definition _)
