-- What stands in a list.
use Rattle.std.proofs.Common.{◌≡◌, ℕ, zero, suc, ◌<◌, ◌⊎◌, inl, inr, List, [], ◌∷◌, ◌++◌, map, filter, length, get_or, Bool, true, false, ◌||◌, cond, refl, sym, ap, ◌∙◌, arith}
use Rattle.std.specs.List.{flat_map, list_any, Contains}

module _ {X : Type 0} where
  abbrev pub In : X → List X → Type 0
  In x [] = ⊥
  In x (y ∷ ys) = (y ≡ x) ⊎ In x ys

  pub in-same : (x : X) (xs ys : List X) → xs ≡ ys → In x xs → In x ys
  in-same x xs ys e h = rw e at h

  pub in-left : (x : X) (xs ys : List X) → In x xs → In x (xs ++ ys)
  in-left x [] ys h = absurd h
  in-left x (z ∷ xs) ys (inl e) = inl e
  in-left x (z ∷ xs) ys (inr h) = inr (in-left x xs ys h)

  pub in-right : (x : X) (xs ys : List X) → In x ys → In x (xs ++ ys)
  in-right x [] ys h = h
  in-right x (z ∷ xs) ys h = inr (in-right x xs ys h)

  pub in-either : (x : X) (xs ys : List X) → In x (xs ++ ys) → In x xs ⊎ In x ys
  in-either x [] ys h = inr h
  in-either x (z ∷ xs) ys (inl e) = inl (inl e)
  in-either x (z ∷ xs) ys (inr h) = elim (in-either x xs ys h) [ inl g ↦ inl (inr g) | inr g ↦ inr g ]

  pub in-filter : (p : X → Bool) (x : X) (xs : List X) → In x xs → p x ≡ true → In x (filter p xs)
  in-filter p x [] h e = absurd h
  in-filter p x (y ∷ ys) (inl s) e = at (p y) (ap p s ∙ e)
    where
      at : (b : Bool) → b ≡ true → In x (cond b (y ∷ filter p ys) (filter p ys))
      at true q = inl s
      at false q = absurd (cc)
  in-filter p x (y ∷ ys) (inr h) e = at (p y) (in-filter p x ys h e)
    where
      at : (b : Bool) → In x (filter p ys) → In x (cond b (y ∷ filter p ys) (filter p ys))
      at true g = inr g
      at false g = g

  pub in-filtered : (p : X → Bool) (x : X) (xs : List X) → In x (filter p xs) → In x xs × (p x ≡ true)
  in-filtered p x [] h = absurd h
  in-filtered p x (y ∷ ys) h = at (p y) refl h (in-filtered p x ys)
    where
      at : (b : Bool) → p y ≡ b → In x (cond b (y ∷ filter p ys) (filter p ys)) → (In x (filter p ys) → In x ys × (p x ≡ true)) → In x (y ∷ ys) × (p x ≡ true)
      at true q (inl s) more = (inl s, ap p (sym s) ∙ q)
      at true q (inr g) more = let r = more g in (inr r.0, r.1)
      at false q g more = let r = more g in (inr r.0, r.1)

  pub filter-all : (p : X → Bool) (xs : List X) → ((x : X) → In x xs → p x ≡ true) → filter p xs ≡ xs
  filter-all p [] h = refl
  filter-all p (x ∷ xs) h = at (p x) (h x (inl refl)) (filter-all p xs (λ y g. h y (inr g)))
    where
      at : (b : Bool) → b ≡ true → filter p xs ≡ xs → cond b (x ∷ filter p xs) (filter p xs) ≡ x ∷ xs
      at true q e = ap (λ l. x ∷ l) e
      at false q e = absurd (cc)

  pub any-of : (q : X → Bool) (x : X) (xs : List X) → In x xs → q x ≡ true → list_any q xs ≡ true
  any-of q x [] h e = absurd h
  any-of q x (y ∷ ys) (inl s) e = at (q y) (ap q s ∙ e)
    where
      at : (b : Bool) → b ≡ true → (b || list_any q ys) ≡ true
      at true g = refl
      at false g = absurd (cc)
  any-of q x (y ∷ ys) (inr h) e = at (q y) (any-of q x ys h e)
    where
      at : (b : Bool) → list_any q ys ≡ true → (b || list_any q ys) ≡ true
      at true g = refl
      at false g = g

  pub some-in : (x : X) (xs : List X) → In x xs → 0 < length xs
  some-in x [] h = absurd h
  some-in x (y ∷ ys) h = omega arith

  pub in-get_or : (xs : List X) (k : ℕ) (d : X) → k < length xs → In (get_or xs k d) xs
  in-get_or [] k d l = absurd (omega (arith, l))
  in-get_or (x ∷ xs) zero d l = inl refl
  in-get_or (x ∷ xs) (suc k) d l = inr (in-get_or xs k d (omega (arith, l)))

  pub in-contains : (xs : List X) (x : X) → Contains xs x → In x xs
  in-contains xs x h = subst_in h.2 (in-get_or xs h.0 x h.1)
    where
      subst_in : get_or xs h.0 x ≡ x → In (get_or xs h.0 x) xs → In x xs
      subst_in e g = rw e at g

  -- the place of what stands in a list
  pub place-in : (x : X) (xs : List X) → In x xs → (k : ℕ) × (k < length xs) × ((d : X) → get_or xs k d ≡ x)
  place-in x [] h = absurd h
  place-in x (y ∷ ys) (inl e) = (0, omega arith, λ d. e)
  place-in x (y ∷ ys) (inr h) = let r = place-in x ys h in let l = r.1 in (suc r.0, omega (arith, l), λ d. r.2 d)

module _ {X Y : Type 0} where
  pub in-map : (f : X → Y) (x : X) (xs : List X) → In x xs → In (f x) (map f xs)
  in-map f x [] h = absurd h
  in-map f x (y ∷ ys) (inl e) = inl (ap f e)
  in-map f x (y ∷ ys) (inr h) = inr (in-map f x ys h)

  pub in-mapped : (f : X → Y) (y : Y) (xs : List X) → In y (map f xs) → (x : X) × In x xs × (f x ≡ y)
  in-mapped f y [] h = absurd h
  in-mapped f y (x ∷ xs) (inl e) = (x, inl refl, e)
  in-mapped f y (x ∷ xs) (inr h) = let r = in-mapped f y xs h in (r.0, inr r.1, r.2)

  pub in-flat_map : (f : X → List Y) (x : X) (y : Y) (xs : List X) → In x xs → In y (f x) → In y (flat_map f xs)
  in-flat_map f x y [] h g = absurd h
  in-flat_map f x y (z ∷ zs) (inl e) g = in-left y (f z) (flat_map f zs) (subst_in (sym e) g)
    where
      subst_in : x ≡ z → In y (f x) → In y (f z)
      subst_in s k = rw s at k
  in-flat_map f x y (z ∷ zs) (inr h) g = in-right y (f z) (flat_map f zs) (in-flat_map f x y zs h g)

  pub in-flat_mapped : (f : X → List Y) (y : Y) (xs : List X) → In y (flat_map f xs) → (x : X) × In x xs × In y (f x)
  in-flat_mapped f y [] h = absurd h
  in-flat_mapped f y (x ∷ xs) h = elim (in-either y (f x) (flat_map f xs) h) [
    | inl g ↦ (x, inl refl, g)
    | inr g ↦ let r = in-flat_mapped f y xs g in (r.0, inr r.1, r.2)
  ]
