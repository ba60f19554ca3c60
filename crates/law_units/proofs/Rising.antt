-- Lists whose members stand at rising places.
use Rattle.std.proofs.Common.{◌≡◌, ◌≤◌, ℕ, zero, suc, List, [], ◌∷◌, ◌++◌, filter, Bool, true, false, cond, not, refl, sym, ap, subst, ◌∙◌, Some, slice_get, ◌⊎◌, inl, inr, arith}
use Rattle.std.specs.List.{AllZip}
use Rattle.law_obligations.specs.Sets.{Has, first, later}
use Rattle.law_obligations.proofs.Members.{Has-uncons, Has-cases}
use Rattle.law_obligations.proofs.OneOfEach.{get_Has}
use Rattle.law_designs.specs.Flattening.{different}

inner : {X : Type 0} {x y : X} → Some x ≡ Some y → x ≡ y
inner e = cc

module _ {A : Type 0} (place : A → ℕ) where
  -- places rise, from this one on
  abbrev pub Rises : ℕ → List A → Type 0
  Rises low [] = Unit {0}
  Rises low (x ∷ xs) = (low ≤ place x) × Rises (suc (place x)) xs

  -- and stay below another one
  abbrev pub Between : ℕ → ℕ → List A → Type 0
  Between low high [] = low ≤ high
  Between low high (x ∷ xs) = (low ≤ place x) × Between (suc (place x)) high xs

  -- no two have one place
  abbrev pub Differ : List A → Type 0
  Differ [] = Unit {0}
  Differ (x ∷ xs) = ((y : A) → Has xs y → place x ≡ place y → ⊥) × Differ xs

  pub rises : (low high : ℕ) (xs : List A) → Between low high xs → Rises low xs
  rises low high [] h = tt
  rises low high (x ∷ xs) h = (h.0, rises (suc (place x)) high xs h.1)

  rises-from : (low other : ℕ) (xs : List A) → other ≤ low → Rises low xs → Rises other xs
  rises-from low other [] l h = tt
  rises-from low other (x ∷ xs) l h = (omega (arith, h.0), h.1)

  pub between-append : (low middle high : ℕ) (xs ys : List A) → Between low middle xs → Between middle high ys → Between low high (xs ++ ys)
  between-append low middle high [] [] h k = omega arith
  between-append low middle high [] (y ∷ ys) h k = (omega (arith, h, k.0), k.1)
  between-append low middle high (x ∷ xs) ys h k = (h.0, between-append (suc (place x)) middle high xs ys h.1 k)

  pub rises-filter : (p : A → Bool) (low : ℕ) (xs : List A) → Rises low xs → Rises low (filter p xs)
  rises-filter p low [] h = tt
  rises-filter p low (x ∷ xs) h = by_test (p x) (rises-filter p (suc (place x)) xs h.1)
    where
      by_test : (b : Bool) → Rises (suc (place x)) (filter p xs) → Rises low (cond b (x ∷ filter p xs) (filter p xs))
      by_test true rest = (h.0, rest)
      by_test false rest = rises-from (suc (place x)) low (filter p xs) (omega (arith, h.0)) rest

  pub rises-different : (same : A → A → Bool) (low : ℕ) (xs : List A) → Rises low xs → Rises low (different same xs)
  rises-different same low [] h = tt
  rises-different same low (x ∷ xs) h = (h.0, rises-filter (λ y. not (same x y)) (suc (place x)) (different same xs) (rises-different same (suc (place x)) xs h.1))

  pub at_least : (low : ℕ) (xs : List A) → Rises low xs → (x : A) → Has xs x → low ≤ place x
  at_least low [] h x m = elim m [ ]
  at_least low (y ∷ xs) h x m = elim (Has-uncons m) [
    | inl e ↦ subst (λ z. low ≤ place z) (sym e) h.0
    | inr k ↦ let l = at_least (suc (place y)) xs h.1 x k in omega (arith, l, h.0)
  ]

  pub differ : (low : ℕ) (xs : List A) → Rises low xs → Differ xs
  differ low [] h = tt
  differ low (x ∷ xs) h = ((λ y m e. let l = at_least (suc (place x)) xs h.1 y m in omega (arith, l, e)), differ (suc (place x)) xs h.1)

  pub differ-append : (xs ys : List A) → Differ xs → Differ ys → ((x y : A) → Has xs x → Has ys y → place x ≡ place y → ⊥) → Differ (xs ++ ys)
  differ-append [] ys h k apart = k
  differ-append (x ∷ xs) ys h k apart = ((λ y m e. by_part y e (Has-cases xs ys m)), differ-append xs ys h.1 k (λ z y m n. apart z y (later m) n))
    where
      by_part : (y : A) → place x ≡ place y → Has xs y ⊎ Has ys y → ⊥
      by_part y e (inl m) = h.0 y m e
      by_part y e (inr m) = apart x y first m e

  -- two members at one place are one
  pub one_at_place : (low : ℕ) (xs : List A) → Rises low xs → (x y : A) → Has xs x → Has xs y → place x ≡ place y → x ≡ y
  one_at_place low [] h x y m n e = elim m [ ]
  one_at_place low (z ∷ xs) h x y m n e = by_part (Has-uncons m) (Has-uncons n) (λ j k. one_at_place (suc (place z)) xs h.1 x y j k e)
    where
      by_part : (x ≡ z) ⊎ Has xs x → (y ≡ z) ⊎ Has xs y → (Has xs x → Has xs y → x ≡ y) → x ≡ y
      by_part (inl a) (inl b) rest = a ∙ sym b
      by_part (inl a) (inr k) rest = let l = at_least (suc (place z)) xs h.1 y k in let p = ap place a in absurd (omega (arith, l, e, p))
      by_part (inr j) (inl b) rest = let l = at_least (suc (place z)) xs h.1 x j in let p = ap place b in absurd (omega (arith, l, e, p))
      by_part (inr j) (inr k) rest = rest j k

  at_front : (low : ℕ) (y : A) (xs : List A) → Rises low (y ∷ xs) → (k : ℕ) (x : A) → Some y ≡ Some x → slice_get xs k ≡ Some x → ⊥
  at_front low y xs h k x e f = let same = ap place (inner e) in let l = at_least (suc (place y)) xs h.1 x (get_Has xs k x f) in omega (arith, l, same)

  -- and stand at one place of the list
  pub one_index : (low : ℕ) (xs : List A) → Rises low xs → (j k : ℕ) (x : A) → slice_get xs j ≡ Some x → slice_get xs k ≡ Some x → j ≡ k
  one_index low [] h j k x e f = absurd (cc (e))
  one_index low (y ∷ xs) h zero zero x e f = refl
  one_index low (y ∷ xs) h zero (suc k) x e f = absurd (at_front low y xs h k x e f)
  one_index low (y ∷ xs) h (suc j) zero x e f = absurd (at_front low y xs h j x f e)
  one_index low (y ∷ xs) h (suc j) (suc k) x e f = ap suc (one_index (suc (place y)) xs h.1 j k x e f)

-- Two rising lists whose members are one for one the same stand in the same order.
module _ {A B : Type 0} (place : A → ℕ) (other : B → ℕ) (W : A → B → Type 0) (same : (a : A) (b : B) → W a b → place a ≡ other b) where
  pub zip_rising : (low high : ℕ) (xs : List A) (ys : List B) → Rises place low xs → Rises other high ys →
      ((a : A) → Has xs a → (b : B) × Has ys b × W a b) → ((b : B) → Has ys b → (a : A) × Has xs a × W a b) → AllZip W xs ys
  zip_rising low high [] [] r q there back = tt
  zip_rising low high [] (y ∷ ys) r q there back = elim (back y first).1 [ ]
  zip_rising low high (x ∷ xs) [] r q there back = elim (there x first).1 [ ]
  zip_rising low high (x ∷ xs) (y ∷ ys) r q there back = (heads (there x first) (back y first), zip_rising (suc (place x)) (suc (other y)) xs ys r.1 q.1 others backs)
    where
      least : (a : A) → Has (x ∷ xs) a → place x ≤ place a
      least a m = elim (Has-uncons m) [
        | inl e ↦ let p = ap place e in omega (arith, p)
        | inr k ↦ let l = at_least place (suc (place x)) xs r.1 a k in omega (arith, l)
      ]

      leasts : (b : B) → Has (y ∷ ys) b → other y ≤ other b
      leasts b m = elim (Has-uncons m) [
        | inl e ↦ let p = ap other e in omega (arith, p)
        | inr k ↦ let l = at_least other (suc (other y)) ys q.1 b k in omega (arith, l)
      ]

      at_one : (b : B) → Has (y ∷ ys) b → W x b → (a : A) → Has (x ∷ xs) a → W a y → other b ≡ other y
      at_one b m w a n v = let e = same x b w in let f = same a y v in let l = least a n in let k = leasts b m in omega (arith, e, f, l, k)

      heads : (b : B) × Has (y ∷ ys) b × W x b → (a : A) × Has (x ∷ xs) a × W a y → W x y
      heads (b, m, w) (a, n, v) = subst (W x) (one_at_place other high (y ∷ ys) q b y m first (at_one b m w a n v)) w

      joined : W x y
      joined = heads (there x first) (back y first)

      others : (a : A) → Has xs a → (b : B) × Has ys b × W a b
      others a m = at_other (there a (later m))
        where
          at_other : (b : B) × Has (y ∷ ys) b × W a b → (b : B) × Has ys b × W a b
          at_other (b, n, w) = elim (Has-uncons n) [
            | inl e ↦
                let p = ap other e in let f = same a b w in let g = same x y joined in let l = at_least place (suc (place x)) xs r.1 a m in
                absurd (omega (arith, p, f, g, l))
            | inr k ↦ (b, k, w)
          ]

      backs : (b : B) → Has ys b → (a : A) × Has xs a × W a b
      backs b m = at_other (back b (later m))
        where
          at_other : (a : A) × Has (x ∷ xs) a × W a b → (a : A) × Has xs a × W a b
          at_other (a, n, w) = elim (Has-uncons n) [
            | inl e ↦
                let p = ap place e in let f = same a b w in let g = same x y joined in let l = at_least other (suc (other y)) ys q.1 b m in
                absurd (omega (arith, p, f, g, l))
            | inr k ↦ (a, k, w)
          ]
