-- Early quantification: acts on a function, and the one conjunction that they stand for.
use Rattle.std.proofs.Common.{◌≡◌, ◌≢◌, ℕ, ◌%◌, Bool, true, false, ◌&&◌, ◌||◌, ◌⊎◌, inl, inr, List, [], ◌∷◌, ◌++◌, map, refl, sym, ◌∙◌, ap, subst, arith}
use Rattle.std.specs.List.{filter}
use Rattle.std.proofs.lemmas.Bool.Decides.{nat_tests}
use Rattle.std.proofs.lemmas.Bool.{cases_lt}
use Rattle.bdd_store.specs.Graph.{with_at}
use Rattle.bdd_store.proofs.Walks.{with_other}
use Rattle.bdd_store.proofs.Functions.{with_own}
use Rattle.bdd_ops.specs.Functions.{Function, some_at, FreeOf}
use Rattle.smv_rings.specs.Functions.{conj}
use Rattle.smv_rings.specs.Lists.{all_of}
use Rattle.smv_rings.specs.Schedule.{Act, after}
use Rattle.smv_rings.specs.Schedule.Act.{Join, Out, Look_at, Lower}

-- the functions that acts join
abbrev pub joined : List Act → List Function
joined [] = []
joined (Join f ∷ acts) = f ∷ joined acts
joined (Out v ∷ acts) = joined acts
joined (Look_at k f ∷ acts) = joined acts
joined (Lower ∷ acts) = joined acts

abbrev pub FreeAll : ℕ → List Function → Type 0
FreeAll v [] = Unit {0}
FreeAll v (f ∷ fs) = FreeOf v f × FreeAll v fs

abbrev pub IsEven : ℕ → Type 0
IsEven v = v % 2 ≡ 0

-- each variable is quantified behind the functions that read it, those of the tail among them
abbrev pub IsEarly : List Function → List Act → Type 0
IsEarly tail [] = Unit {0}
IsEarly tail (Join f ∷ acts) = IsEarly tail acts
IsEarly tail (Out v ∷ acts) = IsEven v × FreeAll v (joined acts) × FreeAll v tail × IsEarly tail acts
IsEarly tail (Look_at k f ∷ acts) = IsEarly tail acts
IsEarly tail (Lower ∷ acts) = ⊥

pub and_true : (x y : Bool) → x && y ≡ true → (x ≡ true) × (y ≡ true)
and_true true y e = (refl, e)
and_true false y e = cc

pub true_and : (x y : Bool) → x ≡ true → y ≡ true → x && y ≡ true
true_and true y e f = f
true_and false y e f = cc

pub or_true : (x y : Bool) → x || y ≡ true → (x ≡ true) ⊎ (y ≡ true)
or_true true y e = inl refl
or_true false y e = inr e

pub true_or_left : (x y : Bool) → x ≡ true → x || y ≡ true
true_or_left true y e = refl
true_or_left false y e = cc

pub true_or_right : (x y : Bool) → y ≡ true → x || y ≡ true
true_or_right true y e = refl
true_or_right false y e = e

pub free_with : (v : ℕ) (f : Function) → FreeOf v f → (a : ℕ → Bool) (x : Bool) → f (with_at a v x) ≡ f a
free_with v f free a x = by_bit x (a v) refl
  where
    own : (y : Bool) → a v ≡ y → f (with_at a v y) ≡ f a
    own y e = ap (λ z. f (with_at a v z)) (sym e) ∙ ap f (λ i w. sym (with_own a v w) i)

    by_bit : (x y : Bool) → a v ≡ y → f (with_at a v x) ≡ f a
    by_bit true true e = own true e
    by_bit true false e = sym (free a) ∙ own false e
    by_bit false true e = free a ∙ own true e
    by_bit false false e = own false e

pub all_of_free : (v : ℕ) (fs : List Function) → FreeAll v fs → (a : ℕ → Bool) (x : Bool) → all_of fs (with_at a v x) ≡ all_of fs a
all_of_free v [] free a x = refl
all_of_free v (f ∷ fs) free a x = ap (λ y. y && all_of fs (with_at a v x)) (free_with v f free.0 a x) ∙ ap (λ y. f a && y) (all_of_free v fs free.1 a x)

-- the assignments agree but for even variables
abbrev pub AgreeOdd : (ℕ → Bool) → (ℕ → Bool) → Type 0
AgreeOdd a c = (v : ℕ) → v % 2 ≡ 1 → a v ≡ c v

-- what the acts leave is true only where the conjunction is true at other even variables
pub early_sound : (tail : List Function) (acts : List Act) (p : Function) (a : ℕ → Bool) → IsEarly tail acts → after p acts a ≡ true → all_of tail a ≡ true
    → (c : ℕ → Bool) × AgreeOdd c a × (p c ≡ true) × (all_of (joined acts) c ≡ true) × (all_of tail c ≡ true)
early_sound tail [] p a early is rest = (a, (λ v odd. refl), is, refl, rest)
early_sound tail (Join f ∷ acts) p a early is rest =
    let found = early_sound tail acts (conj p f) a early is rest in
    let parts = and_true (p found.0) (f found.0) found.2 in
    (found.0, found.1, parts.0, true_and (f found.0) (all_of (joined acts) found.0) parts.1 found.3, found.4)
early_sound tail (Out v ∷ acts) p a early is rest =
    let found = early_sound tail acts (some_at v p) a early.3 is rest in
    let pick : (x : Bool) → p (with_at found.0 v x) ≡ true → (c : ℕ → Bool) × AgreeOdd c a × (p c ≡ true) × (all_of (joined acts) c ≡ true) × (all_of tail c ≡ true) = λ x e. (
      with_at found.0 v x,
      (λ w odd. with_other found.0 v x w (λ same. absurd (omega (arith, same, odd, early.0))) ∙ found.1 w odd),
      e,
      all_of_free v (joined acts) early.1 found.0 x ∙ found.3,
      all_of_free v tail early.2 found.0 x ∙ found.4,
    ) in
    elim (or_true (p (with_at found.0 v false)) (p (with_at found.0 v true)) found.2) [
      | inl e ↦ pick false e
      | inr e ↦ pick true e
    ]
early_sound tail (Look_at k f ∷ acts) p a early is rest = early_sound tail acts p a early is rest
early_sound tail (Lower ∷ acts) p a early is rest = absurd early

abbrev pub NoLower : List Act → Type 0
NoLower [] = Unit {0}
NoLower (Join f ∷ acts) = NoLower acts
NoLower (Out v ∷ acts) = NoLower acts
NoLower (Look_at k f ∷ acts) = NoLower acts
NoLower (Lower ∷ acts) = ⊥

some_of : (v : ℕ) (p : Function) (a : ℕ → Bool) → p a ≡ true → p (with_at a v false) || p (with_at a v true) ≡ true
some_of v p a e = by_bit (a v) refl
  where
    own : (x : Bool) → a v ≡ x → p (with_at a v x) ≡ true
    own x is = ap (λ y. p (with_at a v y)) (sym is) ∙ ap p (λ i w. sym (with_own a v w) i) ∙ e

    by_bit : (x : Bool) → a v ≡ x → p (with_at a v false) || p (with_at a v true) ≡ true
    by_bit false is = true_or_left (p (with_at a v false)) (p (with_at a v true)) (own false is)
    by_bit true is = true_or_right (p (with_at a v false)) (p (with_at a v true)) (own true is)

-- and it is true wherever the conjunction is
pub early_complete : (acts : List Act) (p : Function) (a : ℕ → Bool) → NoLower acts → p a ≡ true → all_of (joined acts) a ≡ true → after p acts a ≡ true
early_complete [] p a none is all = is
early_complete (Join f ∷ acts) p a none is all = let parts = and_true (f a) (all_of (joined acts) a) all in early_complete acts (conj p f) a none (true_and (p a) (f a) is parts.0) parts.1
early_complete (Out v ∷ acts) p a none is all = early_complete acts (some_at v p) a none (some_of v p a is) all
early_complete (Look_at k f ∷ acts) p a none is all = early_complete acts p a none is all
early_complete (Lower ∷ acts) p a none is all = absurd none

-- ---- what is quantified

swap_at : (a : ℕ → Bool) (v w : ℕ) (x y : Bool) → v ≢ w → (u : ℕ) → with_at (with_at a v x) w y u ≡ with_at (with_at a w y) v x u
unfolding with_at
swap_at a v w x y ne u = grind (arith, nat_tests)

twice_at : (a : ℕ → Bool) (v : ℕ) (x y : Bool) (u : ℕ) → with_at (with_at a v x) v y u ≡ with_at a v y u
unfolding with_at
twice_at a v x y u = grind (arith, nat_tests)

pub equal_or_not : (v w : ℕ) → (v ≡ w) ⊎ (v ≢ w)
equal_or_not v w = elim (cases_lt v w) [
  | inl lt ↦ inr (λ e. omega arith)
  | inr le ↦ elim (cases_lt w v) [
    | inl lt ↦ inr (λ e. omega arith)
    | inr is ↦ inl (omega arith)
  ]
]

pub free_some : (v w : ℕ) (p : Function) → FreeOf v p → FreeOf v (some_at w p)
free_some v w p free a = elim (equal_or_not v w) [
  | inl e ↦ subst (λ (u : ℕ). p (with_at (with_at a v false) u false) || p (with_at (with_at a v false) u true) ≡ p (with_at (with_at a v true) u false) || p (with_at (with_at a v true) u true)) e (
      ap (λ c. p c || p (with_at (with_at a v false) v true)) (λ i u. (twice_at a v false false u ∙ sym (twice_at a v true false u)) i)
      ∙ ap (λ c. p (with_at (with_at a v true) v false) || p c) (λ i u. (twice_at a v false true u ∙ sym (twice_at a v true true u)) i))
  | inr ne ↦
      let half : (y : Bool) → p (with_at (with_at a v false) w y) ≡ p (with_at (with_at a v true) w y) = λ y.
      ap p (λ i u. swap_at a v w false y ne u i) ∙ free (with_at a w y) ∙ sym (ap p (λ i u. swap_at a v w true y ne u i)) in
      ap (λ t. t || p (with_at (with_at a v false) w true)) (half false) ∙ ap (λ t. p (with_at (with_at a v true) w false) || t) (half true)
]

pub some_free : (v : ℕ) (p : Function) → FreeOf v (some_at v p)
some_free v p a =
    ap (λ c. p c || p (with_at (with_at a v false) v true)) (λ i u. (twice_at a v false false u ∙ sym (twice_at a v true false u)) i)
    ∙ ap (λ c. p (with_at (with_at a v true) v false) || p c) (λ i u. (twice_at a v false true u ∙ sym (twice_at a v true true u)) i)

pub free_after : (v : ℕ) (acts : List Act) (p : Function) → NoLower acts → FreeOf v p → FreeAll v (joined acts) → FreeOf v (after p acts)
free_after v [] p none free all = free
free_after v (Join f ∷ acts) p none free all = free_after v acts (conj p f) none (λ a. ap (λ x. x && f (with_at a v false)) (free a) ∙ ap (λ x. p (with_at a v true) && x) (all.0 a)) all.1
free_after v (Out w ∷ acts) p none free all = free_after v acts (some_at w p) none (free_some v w p free) all
free_after v (Look_at k f ∷ acts) p none free all = free_after v acts p none free all
free_after v (Lower ∷ acts) p none free all = absurd none

abbrev pub Has : ℕ → List ℕ → Type 0
Has v [] = ⊥
Has v (w ∷ ws) = (v ≡ w) ⊎ Has v ws

differ : {x : Bool} → x ≡ true → x ≡ false → ⊥
differ e f = cc

-- acts that are behind the quantifications of some variables
module _ (t : ℕ → Bool) (rest : List Act) where
  abbrev pub behind : List ℕ → List Act
  behind vs = map Out (filter t vs) ++ rest

  pub joined_outs : (vs : List ℕ) → joined (behind vs) ≡ joined rest
  joined_outs [] = refl
  joined_outs (v ∷ vs) = by_test (t v) refl (joined_outs vs)
    where
      by_test : (x : Bool) → t v ≡ x → joined (behind vs) ≡ joined rest → joined (behind (v ∷ vs)) ≡ joined rest
      by_test true e is = rw e is
      by_test false e is = rw e is

  pub lower_outs : (vs : List ℕ) → NoLower rest → NoLower (behind vs)
  lower_outs [] none = none
  lower_outs (v ∷ vs) none = by_test (t v) refl (lower_outs vs none)
    where
      by_test : (x : Bool) → t v ≡ x → NoLower (behind vs) → NoLower (behind (v ∷ vs))
      by_test true e is = rw e is
      by_test false e is = rw e is

  pub early_outs : (tail : List Function) (vs : List ℕ) → ((v : ℕ) → Has v vs → IsEven v) → ((v : ℕ) → t v ≡ true → FreeAll v (joined rest) × FreeAll v tail) → IsEarly tail rest → IsEarly tail (behind vs)
  early_outs tail [] even free early = early
  early_outs tail (v ∷ vs) even free early = by_test (t v) refl (early_outs tail vs (λ w has. even w (inr has)) free early)
    where
      by_test : (x : Bool) → t v ≡ x → IsEarly tail (behind vs) → IsEarly tail (behind (v ∷ vs))
      by_test true e is = rw e (even v (inl refl), subst (FreeAll v) (sym (joined_outs vs)) (free v e).0, (free v e).1, is)
      by_test false e is = rw e is

  pub outs_free : (v : ℕ) (vs : List ℕ) (p : Function) → NoLower rest → Has v vs → t v ≡ true → FreeAll v (joined rest) → FreeOf v (after p (behind vs))
  outs_free v [] p none has is free = absurd has
  outs_free v (w ∷ ws) p none has is free = by_test (t w) refl (λ q later. outs_free v ws q none later is free)
    where
      by_test : (x : Bool) → t w ≡ x → ((q : Function) → Has v ws → FreeOf v (after q (behind ws))) → FreeOf v (after p (behind (w ∷ ws)))
      by_test true e ih = rw e (elim has [
        | inl same ↦ free_after v (behind ws) (some_at w p) (lower_outs ws none) (subst (λ (u : ℕ). FreeOf v (some_at u p)) same (some_free v p)) (subst (FreeAll v) (sym (joined_outs ws)) free)
        | inr later ↦ ih (some_at w p) later
      ])
      by_test false e ih = rw e (elim has [
        | inl same ↦ absurd (differ (sym (ap t same) ∙ is) e)
        | inr later ↦ ih p later
      ])
