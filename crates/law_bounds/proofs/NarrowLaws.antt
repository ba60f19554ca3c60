-- What conditions leave of bounds holds where the conditions do.
use Rattle.std.proofs.Common.{◌≡◌, ◌∙◌, ℕ, List, [], ◌∷◌, map, Bool, true, false, cond, Some, None, refl, sym, ap, ap₂, subst, nat_eq}
use Rattle.std.specs.Prelude.{not, ◌&&◌, slice_get}
use Rattle.law_lists.proofs.Numbers.{nat_eq-is}
use Rattle.smv_core.specs.Values.{Outcome, Truth, number, constant, scalar, ordinal, add, and_of, compare, conjunction, disjunction, modulo, not_of, or_of, truth}
use Rattle.smv_core.specs.Assignments.{Index, fixed, bare, computed, add_fixed, modulo_fixed}
use Rattle.smv_core.specs.FlatMeaning.{FlatBindings, FlatState, Numbered, flat_element_at, flat_index, flat_index_sum, flat_outcome, flat_outcomes, flat_sum}
use Rattle.smv_core.specs.Rows.{one_flat_expr}
use Rattle.smv_core.specs.declared.tree.Op.{Op}
use Rattle.smv_core.specs.declared.flat.FlatExpr.{FlatExpr, Number, Read', Var, Loop, Not', And', Or', Compare', Sum', Modulo', Row_of-FlatExpr, end_of-FlatExpr, more_of-FlatExpr, Row_of-FlatSigned, end_of-FlatSigned, more_of-FlatSigned, items-the_row-FlatExpr}
use Rattle.smv_look_bounds.specs.declared.numbers.Bounds.{Bounds}
use Rattle.smv_look_bounds.specs.Narrowing.{Given, Target, element, variable, beside_index, compared, denied, index_in, narrow, narrow_each, narrowed, same_index, same_indexes, same_target, target, turned}
use Rattle.law_bounds.specs.BoundsHold.{AreSo}
use Rattle.law_bounds.proofs.NumberLaws.{Holds, as-it-holds, beside-holds, not-back, truth-bit, turned-holds}

-- ---- what the text alone tells of an index

abbrev Denotes : FlatBindings → Index → Outcome → Type 0
Denotes b (fixed w) u = u ≡ w
Denotes b (bare k) u = u ≡ slice_get b k
Denotes b computed u = Unit {0}

added : (b : FlatBindings) (minus : Bool) (i j : Index) (o p : Outcome) → Denotes b i o → Denotes b j p → Denotes b (add_fixed minus i j) (add minus o p)
added b minus (fixed u) (fixed v) o p h k = rw (h, k) refl
added b minus (fixed u) (bare n) o p h k = tt
added b minus (fixed u) computed o p h k = tt
added b minus (bare m) j o p h k = tt
added b minus computed j o p h k = tt

moduloed : (b : FlatBindings) (i : Index) (o : Outcome) (by : ℕ) → Denotes b i o → Denotes b (modulo_fixed i by) (modulo o by)
moduloed b (fixed u) o by h = rw h refl
moduloed b (bare n) o by h = tt
moduloed b computed o by h = tt

-- ---- logic

pub both : (p q : Bool) → (p && q) ≡ true → (p ≡ true) × (q ≡ true)
both true true e = (refl, refl)
both true false e = absurd (cc)
both false q e = absurd (cc)

and-true : (u v : Truth) → and_of u v ≡ Some true → (u ≡ Some true) × (v ≡ Some true)
and-true (Some true) (Some true) e = (refl, refl)
and-true (Some true) (Some false) e = absurd (cc)
and-true (Some true) None e = absurd (cc)
and-true (Some false) v e = absurd (cc)
and-true None (Some true) e = absurd (cc)
and-true None (Some false) e = absurd (cc)
and-true None None e = absurd (cc)

or-false : (u v : Truth) → or_of u v ≡ Some false → (u ≡ Some false) × (v ≡ Some false)
or-false (Some false) (Some false) e = (refl, refl)
or-false (Some false) (Some true) e = absurd (cc)
or-false (Some false) None e = absurd (cc)
or-false (Some true) v e = absurd (cc)
or-false None (Some true) e = absurd (cc)
or-false None (Some false) e = absurd (cc)
or-false None None e = absurd (cc)

-- all of them are so
abbrev AreAll : Bool → List Outcome → Type 0
AreAll holds [] = Unit {0}
AreAll holds (u ∷ us) = (truth u ≡ Some holds) × AreAll holds us

all-true : (us : List Outcome) → conjunction (map truth us) ≡ Some true → AreAll true us
all-true [] e = tt
all-true (u ∷ us) e = let r = and-true (truth u) (conjunction (map truth us)) e in (r.0, all-true us r.1)

all-false : (us : List Outcome) → disjunction (map truth us) ≡ Some false → AreAll false us
all-false [] e = tt
all-false (u ∷ us) e = let r = or-false (truth u) (disjunction (map truth us)) e in (r.0, all-false us r.1)

-- ---- comparisons with an index

beside-index : (b : FlatBindings) (op : Op) (i : Index) (x u : Outcome) (w : Bounds) → Denotes b i x → compare op u x ≡ Some true → Holds w u → Holds (beside_index op i w) u
beside-index b op (fixed (Some (number j))) x (Some (number k)) w d e h = beside-holds op j k w (subst (λ (o : Outcome). compare op (Some (number k)) o ≡ Some true) d e) h
beside-index b op (fixed (Some (number j))) x None w d e h = tt
beside-index b op (fixed (Some (number j))) x (Some (constant name)) w d e h = tt
beside-index b op (fixed (Some (number j))) x (Some (scalar t k)) w d e h = tt
beside-index b op (fixed (Some (number j))) x (Some (ordinal t k)) w d e h = tt
beside-index b op (fixed (Some (constant name))) x u w d e h = h
beside-index b op (fixed (Some (scalar t j))) x u w d e h = h
beside-index b op (fixed (Some (ordinal t j))) x u w d e h = h
beside-index b op (fixed None) x u w d e h = h
beside-index b op (bare j) x u w d e h = h
beside-index b op computed x u w d e h = h

beside-turned : (b : FlatBindings) (op : Op) (i : Index) (x u : Outcome) (w : Bounds) → Denotes b i x → compare op x u ≡ Some true → Holds w u → Holds (beside_index (turned op) i w) u
beside-turned b op (fixed (Some (number j))) x (Some (number k)) w d e h = beside-holds (turned op) j k w (turned-holds op j k (subst (λ (o : Outcome). compare op o (Some (number k)) ≡ Some true) d e)) h
beside-turned b op (fixed (Some (number j))) x None w d e h = tt
beside-turned b op (fixed (Some (number j))) x (Some (constant name)) w d e h = tt
beside-turned b op (fixed (Some (number j))) x (Some (scalar t k)) w d e h = tt
beside-turned b op (fixed (Some (number j))) x (Some (ordinal t k)) w d e h = tt
beside-turned b op (fixed (Some (constant name))) x u w d e h = h
beside-turned b op (fixed (Some (scalar t j))) x u w d e h = h
beside-turned b op (fixed (Some (ordinal t j))) x u w d e h = h
beside-turned b op (fixed None) x u w d e h = h
beside-turned b op (bare j) x u w d e h = h
beside-turned b op computed x u w d e h = h

module _ (n : Numbered) (s : FlatState) (b : FlatBindings) where
  mutual
    denotes : (e : FlatExpr) → Denotes b (flat_index e) (flat_outcome n s e b)
    denotes (Number value at) = refl
    denotes (Loop value at) = refl
    denotes (Var var at) = refl
    denotes (Sum' f (one_flat_expr head) shape more) = summed more (flat_index head) (flat_outcome n s head b) (denotes head)
    denotes (Modulo' shape (one_flat_expr e) by at) = moduloed b (flat_index e) (flat_outcome n s e b) by (denotes e)
    denotes _ = tt

    summed : {m : _} (more : Row_of-FlatSigned m) (i : Index) (o : Outcome) → Denotes b i o → Denotes b (flat_index_sum i more) (flat_sum n s more o b)
    summed end_of-FlatSigned i o k = k
    summed (more_of-FlatSigned minus e rest) i o k = summed rest (add_fixed minus i (flat_index e)) (add minus o (flat_outcome n s e b)) (added b minus i (flat_index e) o (flat_outcome n s e b) k (denotes e))

  -- ---- one reference

  one-index : (i j : Index) (u v : Outcome) → Denotes b i u → Denotes b j v → same_index i j ≡ true → v ≡ u
  one-index (fixed (Some (number j))) (fixed (Some (number k))) u v d e is = e ∙ ap (λ (m : ℕ). Some (number m)) (sym (nat_eq-is j k is)) ∙ sym d
  one-index (bare j) (bare k) u v d e is = e ∙ ap (slice_get b) (sym (nat_eq-is j k is)) ∙ sym d
  one-index _ _ u v d e is = absurd (cc)

  one-outcome : (e f : FlatExpr) → same_index (index_in e) (index_in f) ≡ true → flat_outcome n s f b ≡ flat_outcome n s e b
  unfolding index_in
  one-outcome e f is = one-index (flat_index e) (flat_index f) (flat_outcome n s e b) (flat_outcome n s f b) (denotes e) (denotes f) is

  one-row : {l m : _} (row : Row_of-FlatExpr l) (others : Row_of-FlatExpr m) → same_indexes (map index_in (items-the_row-FlatExpr _ row)) (map index_in (items-the_row-FlatExpr _ others)) ≡ true → flat_outcomes n s others b ≡ flat_outcomes n s row b
  one-row end_of-FlatExpr end_of-FlatExpr is = refl
  one-row end_of-FlatExpr (more_of-FlatExpr f rest) is = absurd (cc)
  one-row (more_of-FlatExpr e rest) end_of-FlatExpr is = absurd (cc)
  one-row (more_of-FlatExpr e rest) (more_of-FlatExpr f others) is =
      let r = both (same_index (index_in e) (index_in f)) (same_indexes (map index_in (items-the_row-FlatExpr _ rest)) (map index_in (items-the_row-FlatExpr _ others))) is in
      ap₂ (λ (u : Outcome) (us : List Outcome). u ∷ us) (one-outcome e f r.0) (one-row rest others r.1)

  -- each expression that refers to this has this outcome
  abbrev pub Refers : Target → Outcome → Type 0
  Refers t u = (e : FlatExpr) → same_target t (target e) ≡ true → flat_outcome n s e b ≡ u

  pub element-refers : {m : _} (family : ℕ) (row : Row_of-FlatExpr m) → Refers (element family (map index_in (items-the_row-FlatExpr _ row))) (flat_element_at n s family (slice_get n.families family) (flat_outcomes n s row b))
  unfolding target
  element-refers family row (Read' other shape others at) is =
      let r = both (nat_eq family other) (same_indexes (map index_in (items-the_row-FlatExpr _ row)) (map index_in (items-the_row-FlatExpr _ others))) is in
      ap₂ (λ (k : ℕ) (us : List Outcome). flat_element_at n s k (slice_get n.families k) us) (sym (nat_eq-is family other r.0)) (one-row row others r.1)
  element-refers family row _ is = absurd (cc)

  pub variable-refers : (var : ℕ) → Refers (variable var) (slice_get b var)
  unfolding target
  variable-refers var (Var other at) is = ap (slice_get b) (sym (nat_eq-is var other is))
  variable-refers var _ is = absurd (cc)

  -- ---- conditions

  module _ (t : Target) (u : Outcome) (refers : Refers t u) where
    compared-holds : (op : Op) (left right : FlatExpr) (w : Bounds) → compare op (flat_outcome n s left b) (flat_outcome n s right b) ≡ Some true → Holds w u → Holds (compared t op left right w) u
    unfolding index_in
    compared-holds op left right w is h = by (same_target t (target left)) (same_target t (target right)) refl refl
      where
        by : (p q : Bool) → same_target t (target left) ≡ p → same_target t (target right) ≡ q → Holds (cond p (beside_index op (index_in right) w) (cond q (beside_index (turned op) (index_in left) w) w)) u
        by true q e f = beside-index b op (flat_index right) (flat_outcome n s right b) u w (denotes right) (subst (λ (o : Outcome). compare op o (flat_outcome n s right b) ≡ Some true) (refers left e) is) h
        by false true e f = beside-turned b op (flat_index left) (flat_outcome n s left b) u w (denotes left) (subst (λ (o : Outcome). compare op (flat_outcome n s left b) o ≡ Some true) (refers right f) is) h
        by false false e f = h

    mutual
      unfolding narrow

      pub narrow-holds : (holds : Bool) (e : FlatExpr) (w : Bounds) → truth (flat_outcome n s e b) ≡ Some holds → Holds w u → Holds (narrow t holds e w) u
      narrow-holds true (And' shape parts) w is h = each-holds true parts w (all-true (flat_outcomes n s parts b) (sym (truth-bit (conjunction (map truth (flat_outcomes n s parts b)))) ∙ is)) h
      narrow-holds false (And' shape parts) w is h = h
      narrow-holds true (Or' shape parts) w is h = h
      narrow-holds false (Or' shape parts) w is h = each-holds false parts w (all-false (flat_outcomes n s parts b) (sym (truth-bit (disjunction (map truth (flat_outcomes n s parts b)))) ∙ is)) h
      narrow-holds holds (Not' shape (one_flat_expr e) at) w is h =
          narrow-holds (not holds) e w (not-back holds (truth (flat_outcome n s e b)) (sym (truth-bit (not_of (truth (flat_outcome n s e b)))) ∙ is)) h
      narrow-holds holds (Compare' op l (one_flat_expr left) r (one_flat_expr right)) w is h =
          compared-holds (cond holds op (denied op)) left right w
          (as-it-holds holds op (flat_outcome n s left b) (flat_outcome n s right b) (sym (truth-bit (compare op (flat_outcome n s left b) (flat_outcome n s right b))) ∙ is)) h
      narrow-holds holds _ w is h = h

      each-holds : {m : _} (holds : Bool) (parts : Row_of-FlatExpr m) (w : Bounds) → AreAll holds (flat_outcomes n s parts b) → Holds w u → Holds (narrow_each t holds parts w) u
      each-holds holds end_of-FlatExpr w are h = h
      each-holds holds (more_of-FlatExpr e rest) w are h = each-holds holds rest (narrow t holds e w) are.1 (narrow-holds holds e w are.0 h)

    pub narrowed-holds : (givens : List Given) (w : Bounds) → AreSo n s b givens → Holds w u → Holds (narrowed givens t w) u
    narrowed-holds [] w are h = h
    narrowed-holds (g ∷ givens) w are h = narrowed-holds givens (narrow t g.holds g.cond w) are.1 (narrow-holds g.holds g.cond w are.0 h)
