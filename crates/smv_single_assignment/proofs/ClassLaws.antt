-- Classes of assignments.
use Rattle.std.proofs.Common.{◌≡◌, ◌<◌, ◌+◌, ℕ, zero, suc, List, [], ◌∷◌, ◌++◌, map, length, get_or, set, zip, Bool, true, false, not, cond, ◌&&◌, refl, ap, sym, ◌∙◌, arith, subst, ◌⊎◌, inl, inr, get_or-set_other, get_or-set_same}
use Rattle.std.specs.Prelude.{Option, Some, None, slice_get, nat_eq, is_some, Result, Ok, Err, IfOk}
use Rattle.std.specs.List.{list_any}
use Rattle.std.specs.Option.{option_eq}
use Rattle.std.specs.HashMap.{HashMap, Updates}
use Rattle.std.proofs.lemmas.Bool.{eqb-true, eq-eqb, cases_eq, not-true}
use Rattle.std.proofs.lemmas.Option.{slice_get_within}
use Rattle.std.proofs.lemmas.List.{get_or_append_left}
use Rattle.std.proofs.Math.Seq.{get_or-append_seam}
use Rattle.law_lists.proofs.Booleans.{not_left, not_right, left_of, right_of}
use Rattle.smv_core.specs.Values.{number, constant, scalar, ordinal}
use Rattle.smv_core.specs.Assignments.{Index, fixed, bare, computed}
use Rattle.smv_core.specs.Conflicts.{are_two_constants}
use Rattle.smv_core.specs.FlatMeaning.{flat_index}
use Rattle.smv_core.specs.declared.flat.FlatExpr.{FlatExpr}
use Rattle.law_designs.specs.WholeText.{is_one_layer}
use Rattle.law_designs.specs.Standing.{Standing}
use Rattle.law_designs.specs.SingleFaults.{may_meet, differ}
use Rattle.smv_single_assignment.specs.Links.{AreClassed}
use Rattle.smv_single_assignment.specs.Classes.{constant_value, constant_in, value_by, kept_if, kept_at, AreSteady, AreRefined, same_key, number_at}
use Rattle.smv_single_assignment.specs.declared.classes.Criterion.{Criterion}
use Rattle.smv_single_assignment.specs.declared.classes.Criterion.TheVariants.{Family, Layer, Constant}

-- ---- two that may meet and have a value have the same

one-layer : (m n : Option ℕ) (u v : ℕ) → is_one_layer m n ≡ true → m ≡ Some u → n ≡ Some v → u ≡ v
one-layer None n u v met first second = cc
one-layer (Some j) None u v met first second = cc
one-layer (Some j) (Some k) u v met first second =
    let same_one : j ≡ k = eqb-true j k met in
    let a : j ≡ u = cc in
    let b : k ≡ v = cc in
    sym a ∙ same_one ∙ b

-- constants that are not two
one-constant : (i j : Index) (u v : ℕ) → are_two_constants i j ≡ false → constant_value i ≡ Some u → constant_value j ≡ Some v → u ≡ v
one-constant (fixed (Some (number m))) (fixed (Some (number n))) u v apart first second =
    let same_one : m ≡ n = eqb-true m n (not-not (nat_eq m n) apart) in
    let a : m ≡ u = cc in
    let b : n ≡ v = cc in
    sym a ∙ same_one ∙ b
  where
    not-not : (t : Bool) → not t ≡ false → t ≡ true
    not-not true e = refl
    not-not false e = sym e
one-constant (fixed (Some (number m))) (fixed (Some (constant w))) u v apart first second = cc
one-constant (fixed (Some (number m))) (fixed (Some (scalar t w))) u v apart first second = cc
one-constant (fixed (Some (number m))) (fixed (Some (ordinal t w))) u v apart first second = cc
one-constant (fixed (Some (number m))) (fixed None) u v apart first second = cc
one-constant (fixed (Some (number m))) (bare n) u v apart first second = cc
one-constant (fixed (Some (number m))) computed u v apart first second = cc
one-constant (fixed (Some (constant w))) j u v apart first second = cc
one-constant (fixed (Some (scalar t w))) j u v apart first second = cc
one-constant (fixed (Some (ordinal t w))) j u v apart first second = cc
one-constant (fixed None) j u v apart first second = cc
one-constant (bare n) j u v apart first second = cc
one-constant computed j u v apart first second = cc

constants-agree : (xs ys : List FlatExpr) (k u v : ℕ) → list_any (λ (i, j). are_two_constants i j) (zip (map flat_index xs) (map flat_index ys)) ≡ false → constant_in xs k ≡ Some u → constant_in ys k ≡ Some v → u ≡ v
constants-agree [] ys k u v apart first second = cc
constants-agree (x ∷ xs) [] k u v apart first second = cc
constants-agree (x ∷ xs) (y ∷ ys) zero u v apart first second = one-constant (flat_index x) (flat_index y) u v (not_left (are_two_constants (flat_index x) (flat_index y)) _ apart) first second
constants-agree (x ∷ xs) (y ∷ ys) (suc k) u v apart first second = constants-agree xs ys k u v (not_right (are_two_constants (flat_index x) (flat_index y)) _ apart) first second

pub values-agree : (by : Criterion) (a b : Standing) (u v : ℕ) → may_meet a b ≡ true → value_by by a ≡ Some u → value_by by b ≡ Some v → u ≡ v
values-agree Family a b u v met first second =
    let x : a.family ≡ u = cc in
    let y : b.family ≡ v = cc in
    let same_one : a.family ≡ b.family = eqb-true a.family b.family (left_of (nat_eq a.family b.family) _ (right_of _ _ met)) in
    sym x ∙ same_one ∙ y
values-agree Layer a b u v met first second = one-layer a.layer b.layer u v (left_of (is_one_layer a.layer b.layer) _ met) first second
values-agree (Constant index) a b u v met first second = constants-agree a.left b.left index u v (not-true (differ a b) (right_of (nat_eq a.family b.family) _ (right_of _ _ met))) first second

-- ---- one class

pub one-classed : (all : List Standing) (zeros : List ℕ) (count : ℕ) → length zeros ≡ length all → count ≡ length all → ((k : ℕ) → get_or zeros k 0 ≡ 0) → AreClassed all zeros count
one-classed all zeros count long is zero_at = record {
  each = long;
  below = λ j lt. omega (arith, lt, long, is, zero_at j);
  together = λ i j a b first second met. zero_at i ∙ sym (zero_at j);
}

-- ---- marks

steady-one : (classes : List ℕ) (values : List (Option ℕ)) (marks : List Bool) (n : ℕ) → get_or classes n 0 < length marks → AreSteady classes values marks n
    → AreSteady classes values (set marks (get_or classes n 0) (get_or marks (get_or classes n 0) false && is_some (get_or values n None))) (n + 1)
steady-one classes values marks n below steady = λ j lt marked none. by j lt marked none (cases_eq j n) (cases_eq (get_or classes j 0) (get_or classes n 0))
  where
    some-none : (o : Option ℕ) → is_some o ≡ true → o ≡ None → ⊥
    some-none None some none = absurd (apart some)
      where
        apart : false ≡ true → ⊥
        apart e = cc
    some-none (Some x) some none = cc

    by : (j : ℕ) → j < n + 1 → get_or (set marks (get_or classes n 0) (get_or marks (get_or classes n 0) false && is_some (get_or values n None))) (get_or classes j 0) false ≡ true → get_or values j None ≡ None → (j ≡ n) ⊎ (j ≡ n → ⊥)
        → (get_or classes j 0 ≡ get_or classes n 0) ⊎ (get_or classes j 0 ≡ get_or classes n 0 → ⊥) → ⊥
    by j lt marked none (inl is) (inr apart) = apart (ap (λ k. get_or classes k 0) is)
    by j lt marked none (inl is) (inl same_one) =
        let here = sym (get_or-set_same marks (get_or classes n 0) (get_or marks (get_or classes n 0) false && is_some (get_or values n None)) false below) ∙ ap (λ c. get_or (set marks (get_or classes n 0) (get_or marks (get_or classes n 0) false && is_some (get_or values n None))) c false) (sym same_one) ∙ marked in
        some-none (get_or values n None) (right_of (get_or marks (get_or classes n 0) false) _ here) (ap (λ k. get_or values k None) (sym is) ∙ none)
    by j lt marked none (inr far) (inl same_one) =
        let here = sym (get_or-set_same marks (get_or classes n 0) (get_or marks (get_or classes n 0) false && is_some (get_or values n None)) false below) ∙ ap (λ c. get_or (set marks (get_or classes n 0) (get_or marks (get_or classes n 0) false && is_some (get_or values n None))) c false) (sym same_one) ∙ marked in
        steady j (omega (arith, lt, far)) (ap (λ c. get_or marks c false) same_one ∙ left_of (get_or marks (get_or classes n 0) false) _ here) none
    by j lt marked none (inr far) (inr apart) =
        steady j (omega (arith, lt, far)) (sym (get_or-set_other marks (get_or classes n 0) (get_or classes j 0) (get_or marks (get_or classes n 0) false && is_some (get_or values n None)) false apart) ∙ marked) none

pub steady-step : (classes : List ℕ) (values : List (Option ℕ)) (marks : List Bool) (n class : ℕ) (mark some new : Bool) → class ≡ get_or classes n 0 → class < length marks → mark ≡ get_or marks class false → some ≡ is_some (get_or values n None) → new ≡ (mark && some)
    → AreSteady classes values marks n → AreSteady classes values (set marks class new) (n + 1)
steady-step classes values marks n class mark some new class_is below mark_is some_is new_is steady =
    let value : new ≡ (get_or marks (get_or classes n 0) false && is_some (get_or values n None)) = new_is ∙ ap (λ t. t && some) (mark_is ∙ ap (λ c. get_or marks c false) class_is) ∙ ap (λ t. get_or marks (get_or classes n 0) false && t) some_is in
    subst (λ c. AreSteady classes values (set marks c new) (n + 1)) (sym class_is) (subst (λ t. AreSteady classes values (set marks (get_or classes n 0) t) (n + 1)) (sym value)
    (steady-one classes values marks n (subst (λ c. c < length marks) class_is below) steady))

-- ---- numbers

pub same-key-is : (x y : ℕ × Option ℕ) → same_key x y ≡ true → x ≡ y
same-key-is (a, m) (b, n) e = pair a b m n (eqb-true a b (left_of (nat_eq a b) _ e)) (option m n (right_of (nat_eq a b) _ e))
  where
    option : (m n : Option ℕ) → option_eq nat_eq m n ≡ true → m ≡ n
    option None None e = refl
    option None (Some n) e = cc
    option (Some m) None e = cc
    option (Some m) (Some n) e = ap Some (eqb-true m n e)

    pair : (a b : ℕ) (m n : Option ℕ) → a ≡ b → m ≡ n → ◌≡◌ {A = ℕ × Option ℕ} (a, m) (b, n)
    pair a b m n first second = cc

pub same-key-refl : (x : ℕ × Option ℕ) → same_key x x ≡ true
same-key-refl (a, m) = ap (λ t. t && option_eq nat_eq m m) (nat-refl a) ∙ option m
  where
    nat-refl : (n : ℕ) → nat_eq n n ≡ true
    nat-refl n = eq-eqb n n refl

    option : (m : Option ℕ) → option_eq nat_eq m m ≡ true
    option None = refl
    option (Some n) = nat-refl n

module _ {S : Type 0} (m n : HashMap (ℕ × Option ℕ) ℕ S) (key : ℕ × Option ℕ) (place : ℕ) (updates : Updates same_key m n key (Some place)) where
  pub number-new : number_at n key ≡ Some place
  number-new = updates.0 key ∙ ap (λ t. cond t (Some place) (number_at m key)) (same-key-refl key)

  pub number-kept : number_at m key ≡ None → (other : ℕ × Option ℕ) (k : ℕ) → number_at m other ≡ Some k → number_at n other ≡ Some k
  number-kept absent other k known = updates.0 other ∙ by (same_key key other) refl
    where
      by : (t : Bool) → same_key key other ≡ t → cond t (Some place) (number_at m other) ≡ Some k
      by true e =
          let it : key ≡ other = same-key-is key other e in
          let clash : None ≡ Some k = sym absent ∙ ap (number_at m) it ∙ known in
          cc
      by false e = known

  pub number-from : (other : ℕ × Option ℕ) (k : ℕ) → number_at n other ≡ Some k → (k ≡ place) ⊎ (number_at m other ≡ Some k)
  number-from other k known = by (same_key key other) (sym (updates.0 other) ∙ known)
    where
      by : (t : Bool) → cond t (Some place) (number_at m other) ≡ Some k → (k ≡ place) ⊎ (number_at m other ≡ Some k)
      by true e = let it : place ≡ k = cc in inl (sym it)
      by false e = inr e

-- ---- one round

value-at : (by : Criterion) (all : List Standing) (i : ℕ) (a : Standing) → slice_get all i ≡ Some a → get_or (map (value_by by) all) i None ≡ value_by by a
value-at by [] i a got = cc
value-at by (b ∷ all) zero a got = let it : b ≡ a = cc in ap (value_by by) it
value-at by (b ∷ all) (suc i) a got = value-at by all i a got

kept-same : (t : Bool) (m n : Option ℕ) → (t ≡ true → m ≡ None → ⊥) → (t ≡ true → n ≡ None → ⊥) → ((u v : ℕ) → m ≡ Some u → n ≡ Some v → u ≡ v) → kept_if t m ≡ kept_if t n
kept-same false m n some also agree = refl
kept-same true None n some also agree = absurd (some refl refl)
kept-same true (Some u) None some also agree = absurd (also refl refl)
kept-same true (Some u) (Some v) some also agree = ap Some (agree u v refl refl)

pub round-classed : (by : Criterion) (all : List Standing) (classes : List ℕ) (count : ℕ) (values : List (Option ℕ)) (marks : List Bool) (refined : List ℕ) → AreClassed all classes count → count ≡ length all → values ≡ map (value_by by) all
    → AreSteady classes values marks (length classes) → AreRefined classes values marks refined → AreClassed all refined count
round-classed by all classes count values marks refined classed count_is values_are steady fine = record {
  each = fine.each ∙ classed.each;
  below = λ j lt. omega (arith, fine.below j lt, classed.each, count_is);
  together = λ i j a b first second met.
      let le : i < length classes = omega (arith, slice_get_within all i a first, classed.each) in
      let le_j : j < length classes = omega (arith, slice_get_within all j b second, classed.each) in
      let one : get_or classes i 0 ≡ get_or classes j 0 = classed.together i j a b first second met in
      let value_i : get_or values i None ≡ value_by by a = ap (λ l. get_or l i None) values_are ∙ value-at by all i a first in
      let value_j : get_or values j None ≡ value_by by b = ap (λ l. get_or l j None) values_are ∙ value-at by all j b second in
      let kept : kept_at classes values marks i ≡ kept_at classes values marks j =
      kept-same (get_or marks (get_or classes i 0) false) (get_or values i None) (get_or values j None) (λ t none. steady i le t none) (λ t none. steady j le_j (ap (λ c. get_or marks c false) (sym one) ∙ t) none)
      (λ u v x y. values-agree by a b u v met (sym value_i ∙ x) (sym value_j ∙ y))
      ∙ ap (λ c. kept_if (get_or marks c false) (get_or values j None)) one in
      fine.together i j le le_j one kept;
}

-- ---- one more number

pub known-more : {S : Type 0} (m n : HashMap (ℕ × Option ℕ) ℕ S) (classes : List ℕ) (values : List (Option ℕ)) (marks : List Bool) (refined new : List ℕ) (place class put : ℕ) (value : Option ℕ) → length refined ≡ place
    → class ≡ get_or classes place 0 → value ≡ kept_at classes values marks place → new ≡ refined ++ put ∷ []
    → number_at n (class, value) ≡ Some put → ((other : ℕ × Option ℕ) (k : ℕ) → number_at m other ≡ Some k → number_at n other ≡ Some k)
    → ((j : ℕ) → j < place → number_at m (get_or classes j 0, kept_at classes values marks j) ≡ Some (get_or refined j 0))
    → (j : ℕ) → j < place + 1 → number_at n (get_or classes j 0, kept_at classes values marks j) ≡ Some (get_or new j 0)
known-more m n classes values marks refined new place class put value long class_is value_is new_is here kept known j lt = by (cases_eq j place)
  where
    by : (j ≡ place) ⊎ (j ≡ place → ⊥) → number_at n (get_or classes j 0, kept_at classes values marks j) ≡ Some (get_or new j 0)
    by (inl is) =
        let it : get_or new place 0 ≡ put = ap (λ l. get_or l place 0) new_is ∙ ap (λ k. get_or (refined ++ put ∷ []) k 0) (sym long) ∙ get_or-append_seam refined put [] 0 in
        subst (λ k. number_at n (get_or classes k 0, kept_at classes values marks k) ≡ Some (get_or new k 0)) (sym is)
        (ap (λ c. number_at n (c, kept_at classes values marks place)) (sym class_is) ∙ ap (λ o. number_at n (class, o)) (sym value_is) ∙ here ∙ ap Some (sym it))
    by (inr far) =
        let below : j < length refined = omega (arith, lt, far, long) in
        kept (get_or classes j 0, kept_at classes values marks j) (get_or refined j 0) (known j (omega (arith, lt, far))) ∙ ap Some (sym (ap (λ l. get_or l j 0) new_is ∙ get_or_append_left refined (put ∷ []) 0 j below))

pub below-more : (refined new : List ℕ) (place put count : ℕ) → length refined ≡ place → new ≡ refined ++ put ∷ [] → put < count → ((j : ℕ) → j < place → get_or refined j 0 < count) → (j : ℕ) → j < place + 1 → get_or new j 0 < count
below-more refined new place put count long new_is lt below j le = by (cases_eq j place)
  where
    by : (j ≡ place) ⊎ (j ≡ place → ⊥) → get_or new j 0 < count
    by (inl is) =
        let it : get_or new place 0 ≡ put = ap (λ l. get_or l place 0) new_is ∙ ap (λ k. get_or (refined ++ put ∷ []) k 0) (sym long) ∙ get_or-append_seam refined put [] 0 in
        subst (λ k. get_or new k 0 < count) (sym is) (subst (λ k. k < count) (sym it) lt)
    by (inr far) =
        let here : j < length refined = omega (arith, le, far, long) in
        subst (λ k. k < count) (sym (ap (λ l. get_or l j 0) new_is ∙ get_or_append_left refined (put ∷ []) 0 j here)) (below j (omega (arith, le, far)))

pub bounded-more : {S : Type 0} (m n : HashMap (ℕ × Option ℕ) ℕ S) (place count : ℕ) → place < count → ((other : ℕ × Option ℕ) (k : ℕ) → number_at n other ≡ Some k → (k ≡ place) ⊎ (number_at m other ≡ Some k))
    → ((other : ℕ × Option ℕ) (k : ℕ) → number_at m other ≡ Some k → k < count) → (other : ℕ × Option ℕ) (k : ℕ) → number_at n other ≡ Some k → k < count
bounded-more m n place count lt from bounded other k known = elim (from other k known) [ inl is ↦ subst (λ x. x < count) (sym is) lt | inr old ↦ bounded other k old ]

pub on-ok : {X E : Type 0} (P Q : X → Type 0) (r : Result X E) → ((x : X) → P x → Q x) → IfOk r P → IfOk r Q
on-ok P Q (Ok x) f h = f x h
on-ok P Q (Err e) f h = h
