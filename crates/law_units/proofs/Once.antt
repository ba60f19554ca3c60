-- Lists from which what is the same as an earlier member is left out.
use Rattle.std.proofs.Common.{◌≡◌, List, [], ◌∷◌, filter, Bool, true, false, cond, not, refl, sym, ap, subst, ◌∙◌}
use Rattle.std.specs.List.{AllZip}
use Rattle.smv_core.specs.Sound.{ProofUnit, same_unit, once}
use Rattle.law_designs.specs.Flattening.{different}

-- two filters in either order
filters-swap : {X : Type 0} (p q : X → Bool) (xs : List X) → filter p (filter q xs) ≡ filter q (filter p xs)
filters-swap p q [] = refl
filters-swap p q (x ∷ xs) = by_tests (p x) (q x) refl refl (filters-swap p q xs)
  where
    by_tests : (a b : Bool) → p x ≡ a → q x ≡ b → filter p (filter q xs) ≡ filter q (filter p xs) →
        filter p (cond b (x ∷ filter q xs) (filter q xs)) ≡ filter q (cond a (x ∷ filter p xs) (filter p xs))
    by_tests true true e f h = rw (e, f) (ap (λ l. x ∷ l) h)
    by_tests true false e f h = rw f h
    by_tests false true e f h = rw e h
    by_tests false false e f h = h

-- a filter that leaves out only what the other one does
filter-again : {X : Type 0} (p q : X → Bool) → ((x : X) → q x ≡ false → p x ≡ false) → (xs : List X) → filter p (filter q xs) ≡ filter p xs
filter-again p q less [] = refl
filter-again p q less (x ∷ xs) = by_test (q x) refl (filter-again p q less xs)
  where
    by_test : (b : Bool) → q x ≡ b → filter p (filter q xs) ≡ filter p xs → filter p (cond b (x ∷ filter q xs) (filter q xs)) ≡ cond (p x) (x ∷ filter p xs) (filter p xs)
    by_test true e h = ap (cond (p x) (x ∷ filter p (filter q xs))) h ∙ ap (λ l. cond (p x) (x ∷ l) (filter p xs)) h
    by_test false e h = rw (less x e) h

-- a test that says the same of what is the same may come first
module _ {X : Type 0} (same : X → X → Bool) (p : X → Bool) (respects : (x y : X) → same x y ≡ true → p x ≡ p y) where
  pub different-filter : (xs : List X) → different same (filter p xs) ≡ filter p (different same xs)
  different-filter [] = refl
  different-filter (x ∷ xs) = by_test (p x) refl (different-filter xs)
    where
      differs : p x ≡ false → (y : X) → not (same x y) ≡ false → p y ≡ false
      differs e y f = sym (respects x y (is_true (same x y) f)) ∙ e
        where
          is_true : (b : Bool) → not b ≡ false → b ≡ true
          is_true true e = refl
          is_true false e = sym e

      by_test : (b : Bool) → p x ≡ b → different same (filter p xs) ≡ filter p (different same xs) →
          different same (cond b (x ∷ filter p xs) (filter p xs)) ≡ cond b (x ∷ filter p (filter (λ y. not (same x y)) (different same xs))) (filter p (filter (λ y. not (same x y)) (different same xs)))
      by_test true e h = ap (λ l. x ∷ l) (ap (filter (λ y. not (same x y))) h ∙ filters-swap (λ y. not (same x y)) p (different same xs))
      by_test false e h = h ∙ sym (filter-again p (λ y. not (same x y)) (differs e) (different same xs))

-- ---- two lists member by member

module _ {X Y : Type 0} (R : X → Y → Type 0) where
  pub zip-filter : (p : X → Bool) (q : Y → Bool) → ((x : X) (y : Y) → R x y → p x ≡ q y) → (xs : List X) (ys : List Y) → AllZip R xs ys → AllZip R (filter p xs) (filter q ys)
  zip-filter p q alike [] [] h = tt
  zip-filter p q alike [] (y ∷ ys) h = elim h [ ]
  zip-filter p q alike (x ∷ xs) [] h = elim h [ ]
  zip-filter p q alike (x ∷ xs) (y ∷ ys) h = subst (λ b. AllZip R (filter p (x ∷ xs)) (cond b (y ∷ filter q ys) (filter q ys))) (alike x y h.0) (by_test (p x) (zip-filter p q alike xs ys h.1))
    where
      by_test : (b : Bool) → AllZip R (filter p xs) (filter q ys) → AllZip R (cond b (x ∷ filter p xs) (filter p xs)) (cond b (y ∷ filter q ys) (filter q ys))
      by_test true rest = (h.0, rest)
      by_test false rest = rest

  pub zip-to : (Q : X → Y → Type 0) → ((x : X) (y : Y) → R x y → Q x y) → (xs : List X) (ys : List Y) → AllZip R xs ys → AllZip Q xs ys
  zip-to Q to [] [] h = tt
  zip-to Q to [] (y ∷ ys) h = elim h [ ]
  zip-to Q to (x ∷ xs) [] h = elim h [ ]
  zip-to Q to (x ∷ xs) (y ∷ ys) h = (to x y h.0, zip-to Q to xs ys h.1)

module _ {X Y Z : Type 0} (R : X → Y → Type 0) (S : Y → Z → Type 0) (T : X → Z → Type 0) (joined : (x : X) (y : Y) (z : Z) → R x y → S y z → T x z) where
  pub zip-joined : (xs : List X) (ys : List Y) (zs : List Z) → AllZip R xs ys → AllZip S ys zs → AllZip T xs zs
  zip-joined [] [] [] h k = tt
  zip-joined [] [] (z ∷ zs) h k = elim k [ ]
  zip-joined [] (y ∷ ys) zs h k = elim h [ ]
  zip-joined (x ∷ xs) [] zs h k = elim h [ ]
  zip-joined (x ∷ xs) (y ∷ ys) [] h k = elim k [ ]
  zip-joined (x ∷ xs) (y ∷ ys) (z ∷ zs) h k = (joined x y z h.0 k.0, zip-joined xs ys zs h.1 k.1)

-- units each once beside what stands for them each once
pub once-zip : {Y : Type 0} (R : ProofUnit → Y → Type 0) (same : Y → Y → Bool) → ((u v : ProofUnit) (x y : Y) → R u x → R v y → same_unit u v ≡ same x y) →
    (us : List ProofUnit) (ys : List Y) → AllZip R us ys → AllZip R (once us) (different same ys)
once-zip R same alike [] [] h = tt
once-zip R same alike [] (y ∷ ys) h = elim h [ ]
once-zip R same alike (u ∷ us) [] h = elim h [ ]
once-zip R same alike (u ∷ us) (y ∷ ys) h =
    (h.0, zip-filter R (λ v. not (same_unit u v)) (λ z. not (same y z)) (λ v z r. ap not (alike u v y z h.0 r)) (once us) (different same ys) (once-zip R same alike us ys h.1))
