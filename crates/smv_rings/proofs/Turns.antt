-- What one turn makes of a ring.
use Rattle.std.proofs.Common.{◌≡◌, ◌≢◌, ℕ, zero, suc, ◌+◌, ◌*◌, ◌/◌, ◌%◌, ◌<◌, ◌≤◌, Bool, true, false, eqb, cond, not, ◌&&◌, ◌⊎◌, inl, inr, List, [], ◌∷◌, ◌++◌, refl, sym, ◌∙◌, ap, subst, arith, append_assoc}
use Rattle.std.proofs.lemmas.Bool.Decides.{nat_tests}
use Rattle.bdd_store.specs.Graph.{with_at}
use Rattle.bdd_store.proofs.Walks.{with_here, with_other}
use Rattle.bdd_ops.specs.Functions.{Function, depends, FreeOf}
use Rattle.smv_rings.specs.Functions.{conj, DependsBelow}
use Rattle.smv_rings.proofs.Tables.{free_of}
use Rattle.smv_rings.specs.Lists.{Lists, AllBelow, IsCurrent}
use Rattle.smv_rings.specs.Schedule.{Act, left_by, after, reads_none, evens, vars, outs, joins}
use Rattle.smv_rings.specs.Schedule.Act.{Join}
use Rattle.smv_rings.proofs.Early.{joined, FreeAll, IsEven, IsEarly, and_true, true_and, free_with, NoLower, Has, behind, joined_outs, lower_outs, early_outs, outs_free, equal_or_not}

-- a function that is free of the variables under a test
mix : (ℕ → Bool) → (ℕ → Bool) → (ℕ → Bool) → ℕ → ℕ → Bool
mix t a c zero = a
mix t a c (suc k) = cond (t k) (with_at (mix t a c k) k (c k)) (mix t a c k)

mix_same : (t a c : ℕ → Bool) (k v : ℕ) → k ≤ v → mix t a c k v ≡ a v
unfolding mix
mix_same t a c zero v le = refl
mix_same t a c (suc k) v le = by_test (t k) (mix_same t a c k v (omega arith))
  where
    by_test : (x : Bool) → mix t a c k v ≡ a v → cond x (with_at (mix t a c k) k (c k)) (mix t a c k) v ≡ a v
    by_test true same = with_other (mix t a c k) k (c k) v (omega arith) ∙ same
    by_test false same = same

mix_new : (t a c : ℕ → Bool) → ((v : ℕ) → t v ≡ false → a v ≡ c v) → (k v : ℕ) → v < k → mix t a c k v ≡ c v
unfolding mix
mix_new t a c agree zero v lt = absurd (omega arith)
mix_new t a c agree (suc k) v lt = by_test (t k) refl (λ less. mix_new t a c agree k v less) (mix_same t a c k v)
  where
    by_test : (x : Bool) → t k ≡ x → (v < k → mix t a c k v ≡ c v) → (k ≤ v → mix t a c k v ≡ a v) → cond x (with_at (mix t a c k) k (c k)) (mix t a c k) v ≡ c v
    by_test true e new same = elim (equal_or_not v k) [
      | inl is ↦ rw is (with_here (mix t a c k) k (c k))
      | inr ne ↦ with_other (mix t a c k) k (c k) v ne ∙ new (omega arith)
    ]
    by_test false e new same = elim (equal_or_not v k) [
      | inl is ↦ same (omega arith) ∙ agree v (ap t is ∙ e)
      | inr ne ↦ new (omega arith)
    ]

mix_value : (f : Function) (t a c : ℕ → Bool) (k n : ℕ) → k ≤ n → ((v : ℕ) → v < n → t v ≡ true → FreeOf v f) → f (mix t a c k) ≡ f a
unfolding mix
mix_value f t a c zero n le free = refl
mix_value f t a c (suc k) n le free = by_test (t k) refl (mix_value f t a c k n (omega arith) free)
  where
    by_test : (x : Bool) → t k ≡ x → f (mix t a c k) ≡ f a → f (cond x (with_at (mix t a c k) k (c k)) (mix t a c k)) ≡ f a
    by_test true e same = free_with k f (free k (omega arith) e) (mix t a c k) (c k) ∙ same
    by_test false e same = same

pub agree_but : (n : ℕ) (f : Function) (t : ℕ → Bool) → DependsBelow n f → ((v : ℕ) → v < n → t v ≡ true → FreeOf v f) → (a c : ℕ → Bool) → ((v : ℕ) → t v ≡ false → a v ≡ c v) → f a ≡ f c
agree_but n f t below free a c agree = sym (mix_value f t a c n n (omega arith) free) ∙ below (mix t a c n) c (λ v lt. mix_new t a c agree n v lt)

odd_test : ℕ → Bool
odd_test v = eqb (v % 2) 1

even_test : ℕ → Bool
even_test v = eqb (v % 2) 0

-- a function of current variables reads even variables alone
pub current_agree : (n : ℕ) (f : Function) → DependsBelow n f → IsCurrent f → (a c : ℕ → Bool) → ((v : ℕ) → v % 2 ≡ 0 → a v ≡ c v) → f a ≡ f c
unfolding odd_test
current_agree n f below current a c agree = agree_but n f odd_test below
    (λ v lt e. let is : v ≡ 2 * (v / 2) + 1 = let o : v % 2 ≡ 1 = grind (arith, nat_tests) in omega arith in subst (λ (u : ℕ). FreeOf u f) (sym is) (current (v / 2)))
    a c (λ v e. let o : v % 2 ≢ 1 = grind (arith, nat_tests) in agree v (omega arith))

-- a function that is free of even variables reads odd ones alone
pub next_agree : (m : ℕ) (f : Function) → DependsBelow (2 * m) f → ((b : ℕ) → b < m → FreeOf (2 * b) f) → (a c : ℕ → Bool) → ((v : ℕ) → v % 2 ≡ 1 → a v ≡ c v) → f a ≡ f c
unfolding even_test
next_agree m f below free a c agree = agree_but (2 * m) f even_test below
    (λ v lt e. let o : v % 2 ≡ 0 = grind (arith, nat_tests) in let is : v ≡ 2 * (v / 2) = omega arith in subst (λ (u : ℕ). FreeOf u f) (sym is) (free (v / 2) (omega arith)))
    a c (λ v e. let o : v % 2 ≢ 0 = grind (arith, nat_tests) in agree v (omega arith))

-- ---- what belongs to what
pub after_append : (p : Function) (xs ys : List Act) → after p (xs ++ ys) ≡ after (after p xs) ys
after_append p [] ys = refl
after_append p (x ∷ xs) ys = after_append (left_by x p) xs ys

has_left : (v : ℕ) (xs ys : List ℕ) → Has v xs → Has v (xs ++ ys)
has_left v [] ys has = absurd has
has_left v (x ∷ xs) ys has = elim has [ inl e ↦ inl e | inr h ↦ inr (has_left v xs ys h) ]

has_right : (v : ℕ) (xs ys : List ℕ) → Has v ys → Has v (xs ++ ys)
has_right v [] ys has = has
has_right v (x ∷ xs) ys has = inr (has_right v xs ys has)

pub has_evens : (m b : ℕ) → b < m → Has (2 * b) (evens m)
has_evens zero b lt = absurd (omega arith)
has_evens (suc m) b lt = elim (equal_or_not b m) [
  | inl e ↦ has_right (2 * b) (evens m) (2 * m ∷ []) (inl (ap (λ k. 2 * k) e))
  | inr ne ↦ has_left (2 * b) (evens m) (2 * m ∷ []) (has_evens m b (omega arith))
]

pub has_append : (v : ℕ) (xs ys : List ℕ) → Has v (xs ++ ys) → Has v xs ⊎ Has v ys
has_append v [] ys has = inr has
has_append v (x ∷ xs) ys has = elim has [ inl e ↦ inl (inl e) | inr h ↦ elim (has_append v xs ys h) [ inl g ↦ inl (inr g) | inr g ↦ inr g ] ]

pub evens_even : (m v : ℕ) → Has v (evens m) → IsEven v
evens_even zero v has = absurd has
evens_even (suc m) v has = elim (has_append v (evens m) (2 * m ∷ []) has) [ inl h ↦ evens_even m v h | inr h ↦ elim h [ inl e ↦ omega arith | inr none ↦ absurd none ] ]

not_true : (x : Bool) → not x ≡ true → x ≡ false
not_true true e = cc
not_true false e = refl

module _ (l : Lists) where
  -- conjunctions, with what comes behind them
  abbrev pub joins_then : List Function → List Function → List Act → List Act
  joins_then [] later rest = rest
  joins_then (f ∷ fs) later rest = Join f ∷ behind (λ v. depends (vars l) f v && reads_none (vars l) (fs ++ later) v) (joins_then fs later rest) (evens l.bits)

  pub joins_are : (fs later : List Function) (rest : List Act) → joins l fs later ++ rest ≡ joins_then fs later rest
  joins_are [] later rest = refl
  joins_are (f ∷ fs) later rest = ap (λ acts. Join f ∷ acts) (append_assoc (outs l f (fs ++ later)) (joins l fs later) rest ∙ ap (λ acts. outs l f (fs ++ later) ++ acts) (joins_are fs later rest))

  pub none_free : (fs : List Function) → AllBelow (vars l) fs → (v : ℕ) → reads_none (vars l) fs v ≡ true → FreeAll v fs
  none_free [] below v e = tt
  none_free (f ∷ fs) below v e =
      let parts = and_true (not (depends (vars l) f v)) (reads_none (vars l) fs v) e in
      (free_of (vars l) v f below.0 (not_true _ parts.0), none_free fs below.1 v parts.1)

  pub none_append : (fs gs : List Function) (v : ℕ) → reads_none (vars l) fs v ≡ true → reads_none (vars l) gs v ≡ true → reads_none (vars l) (fs ++ gs) v ≡ true
  none_append [] gs v e g = g
  none_append (f ∷ fs) gs v e g = let parts = and_true (not (depends (vars l) f v)) (reads_none (vars l) fs v) e in true_and (not (depends (vars l) f v)) (reads_none (vars l) (fs ++ gs) v) parts.0 (none_append fs gs v parts.1 g)

  pub append_none : (fs gs : List Function) (v : ℕ) → reads_none (vars l) (fs ++ gs) v ≡ true → (reads_none (vars l) fs v ≡ true) × (reads_none (vars l) gs v ≡ true)
  append_none [] gs v e = (refl, e)
  append_none (f ∷ fs) gs v e =
      let parts = and_true (not (depends (vars l) f v)) (reads_none (vars l) (fs ++ gs) v) e in
      let more = append_none fs gs v parts.1 in
      (true_and (not (depends (vars l) f v)) (reads_none (vars l) fs v) parts.0 more.0, more.1)

  free_append : (v : ℕ) (fs gs : List Function) → FreeAll v fs → FreeAll v gs → FreeAll v (fs ++ gs)
  free_append v [] gs f g = g
  free_append v (x ∷ fs) gs f g = (f.0, free_append v fs gs f.1 g)

  pub joined_joins : (fs later : List Function) (rest : List Act) → joined (joins_then fs later rest) ≡ fs ++ joined rest
  joined_joins [] later rest = refl
  joined_joins (f ∷ fs) later rest = ap (λ gs. f ∷ gs) (joined_outs _ (joins_then fs later rest) (evens l.bits) ∙ joined_joins fs later rest)

  pub lower_joins : (fs later : List Function) (rest : List Act) → NoLower rest → NoLower (joins_then fs later rest)
  lower_joins [] later rest none = none
  lower_joins (f ∷ fs) later rest none = lower_outs _ (joins_then fs later rest) (evens l.bits) (lower_joins fs later rest none)

  pub early_joins : (tail fs later : List Function) (rest : List Act) → AllBelow (vars l) fs
      → ((v : ℕ) → reads_none (vars l) later v ≡ true → FreeAll v (joined rest) × FreeAll v tail) → IsEarly tail rest → IsEarly tail (joins_then fs later rest)
  early_joins tail [] later rest below free early = early
  early_joins tail (f ∷ fs) later rest below free early =
      early_outs _ (joins_then fs later rest) tail (evens l.bits) (λ v has. evens_even l.bits v has)
      (λ v e.
      let none = append_none fs later v (and_true (depends (vars l) f v) (reads_none (vars l) (fs ++ later) v) e).1 in
      let more = free v none.1 in
      (subst (FreeAll v) (sym (joined_joins fs later rest)) (free_append v fs (joined rest) (none_free fs below.1 v none.0) more.0), more.1))
      (early_joins tail fs later rest below.1 free early)

  -- a variable whose last reader is among the functions is quantified there
  pub joins_free : (fs later : List Function) (rest : List Act) (p : Function) (v : ℕ) → AllBelow (vars l) fs → NoLower rest → Has v (evens l.bits)
      → reads_none (vars l) fs v ≡ false → reads_none (vars l) later v ≡ true → FreeAll v (joined rest) → FreeOf v (after p (joins_then fs later rest))
  joins_free [] later rest p v below none has some past free = cc
  joins_free (f ∷ fs) later rest p v below none has some past free = by_rest (reads_none (vars l) fs v) (depends (vars l) f v) refl refl (λ q e. joins_free fs later rest q v below.1 none has e past free)
    where
      by_rest : (x y : Bool) → reads_none (vars l) fs v ≡ x → depends (vars l) f v ≡ y → ((q : Function) → reads_none (vars l) fs v ≡ false → FreeOf v (after q (joins_then fs later rest))) → FreeOf v (after p (joins_then (f ∷ fs) later rest))
      by_rest false y e g ih =
          subst (FreeOf v) (sym (after_append (conj p f) (outs l f (fs ++ later)) (joins_then fs later rest))) (ih (after (conj p f) (outs l f (fs ++ later))) e)
      by_rest true true e g ih =
          outs_free _ (joins_then fs later rest) v (evens l.bits) (conj p f) (lower_joins fs later rest none) has
          (true_and (depends (vars l) f v) (reads_none (vars l) (fs ++ later) v) g (none_append fs later v e past))
          (subst (FreeAll v) (sym (joined_joins fs later rest)) (free_append v fs (joined rest) (none_free fs below.1 v e) free))
      by_rest true false e g ih = absurd (clash _ _ g e some)
        where
          clash : (x y : Bool) → x ≡ false → y ≡ true → not x && y ≡ false → ⊥
          clash true y e f h = cc
          clash false true e f h = cc
          clash false false e f h = cc
