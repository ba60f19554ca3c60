-- Where no assignments of a definition conflict, at most one value of each `forall` variable gives an element a result.
use Rattle.std.proofs.Common.{◌≡◌, ℕ, zero, suc, ◌<◌, ◌≤◌, List, [], ◌∷◌, ◌++◌, map, length, Bool, true, false, not, if◌then◌else◌, refl, sym, ap, subst, ◌∙◌, ◌⊎◌, inl, inr, arith, Some, None, nat_eq}
use Rattle.std.specs.List.{list_any, slice_get, zip}
use Rattle.std.specs.Option.{is_none}
use Rattle.std.proofs.lemmas.Bool.{or_cases, not-true}
use Rattle.law_lists.proofs.Booleans.{clash, not_left, not_right, either_left, either_right, left_of, right_of}
use Rattle.law_lists.proofs.Options.{some_is}
use Rattle.law_lists.proofs.Lists.{length_map}
use Rattle.law_lists.proofs.Numbers.{nat_eq-is}
use Rattle.smv_core.specs.Values.{Value, Outcome, Truth, truth, same, add, modulo}
use Rattle.smv_core.specs.Walk as walk
use Rattle.smv_core.specs.Walk.{Walk, if_walk, is_other}
use Rattle.smv_core.specs.Assignments.{Index, fixed, bare, computed, add_fixed, modulo_fixed}
use Rattle.smv_core.specs.Conflicts.{are_two_constants, are_both}
use Rattle.smv_core.specs.FlatMeaning.{Numbered, FlatState, FlatElement, bind, values_in, flat_index, flat_index_sum, indexes_assigned, indexes_assigned_in, flat_outcome, flat_sum, flat_result, flat_results}
use Rattle.smv_core.specs.declared.flat.Def.{Def}
use Rattle.smv_core.specs.declared.flat.FlatExpr.{FlatExpr, Number, Var, Loop, Sum', Modulo', Row_of-FlatSigned, end_of-FlatSigned, more_of-FlatSigned, more_of-FlatExpr, end_of-FlatExpr}
use Rattle.smv_core.specs.declared.flat.DefBody.{DefBody, Nothing, Assign, If', First', Forall', Row_of-DefBody, end_of-DefBody, more_of-DefBody}
use Rattle.law_obligations.specs.Sets.{Has, first, later}
use Rattle.law_obligations.specs.Bound.{HasVariable, HaveVariable, IsBound, AreBound, OneGives, OneOfEachGives, IsSingle}
use Rattle.law_obligations.specs.FlatConflicts.{AreExcused, EachTwo, HasNoConflict, HaveNoConflict, IsConflictFree}
use Rattle.law_obligations.proofs.Members.{Has-left, Has-right, Has-cases}
use Rattle.law_obligations.proofs.Same.{nat_eq-itself, same-itself, same-is}
use Rattle.law_obligations.proofs.WalkKeeps.{value_kept, value_bound}

-- what an index says of an outcome
abbrev Denotes : List Value → Index → Outcome → Type 0
Denotes b (fixed u) o = o ≡ u
Denotes b (bare k) o = o ≡ slice_get b k
Denotes b computed o = Unit {0}

added : (b : List Value) (minus : Bool) (i j : Index) (o p : Outcome) → Denotes b i o → Denotes b j p → Denotes b (add_fixed minus i j) (add minus o p)
added b minus (fixed u) (fixed v) o p h k = rw (h, k) refl
added b minus (fixed u) (bare n) o p h k = tt
added b minus (fixed u) computed o p h k = tt
added b minus (bare m) j o p h k = tt
added b minus computed j o p h k = tt

moduloed : (b : List Value) (i : Index) (o : Outcome) (by : ℕ) → Denotes b i o → Denotes b (modulo_fixed i by) (modulo o by)
moduloed b (fixed u) o by h = rw h refl
moduloed b (bare n) o by h = tt
moduloed b computed o by h = tt

-- the index is not another value than the element's
abbrev FitsOne : List Value → Index → Value → Type 0
FitsOne b (fixed u) v = is_other u v ≡ false
FitsOne b (bare k) v = is_other (slice_get b k) v ≡ false
FitsOne b computed v = Unit {0}

abbrev Fit : List Value → List Index → List Value → Type 0
Fit b [] vs = Unit {0}
Fit b (i ∷ is) [] = Unit {0}
Fit b (i ∷ is) (v ∷ vs) = FitsOne b i v × Fit b is vs

fits_one : (b : List Value) (i : Index) (o : Outcome) (v : Value) → Denotes b i o → is_other o v ≡ false → FitsOne b i v
fits_one b (fixed u) o v h k = subst (λ u. is_other u v ≡ false) h k
fits_one b (bare n) o v h k = subst (λ u. is_other u v ≡ false) h k
fits_one b computed o v h k = tt

abbrev Gives : Walk → Type 0
Gives w = is_none w ≡ false

gives_unless : (t : Bool) (w : Walk) → Gives (if t then None else w) → t ≡ false
gives_unless true w h = absurd (cc)
gives_unless false w h = refl

gives_first : (v w : Walk) → Gives (walk.first_of v w) → Gives v ⊎ Gives w
gives_first None w h = inr h
gives_first (Some vs) w h = inl refl

gives_if : (every : List Value) (o : Truth) (v w : Walk) → Gives (if_walk every o v w) → Gives v ⊎ Gives w
gives_if every o (Some vs) w h = inl refl
gives_if every o None (Some ws) h = inr refl
gives_if every None None None h = absurd (cc)
gives_if every (Some true) None None h = absurd (cc)
gives_if every (Some false) None None h = absurd (cc)

module _ (n : Numbered) (s : FlatState) where
  mutual
    denotes : (b : List Value) (e : FlatExpr) → Denotes b (flat_index e) (flat_outcome n s e b)
    denotes b (Number value place) = refl
    denotes b (Loop value place) = refl
    denotes b (Var var place) = refl
    denotes b (Sum' f (more_of-FlatExpr head end_of-FlatExpr) shape more) = summed b more (flat_index head) (flat_outcome n s head b) (denotes b head)
    denotes b (Modulo' shape (more_of-FlatExpr e end_of-FlatExpr) by place) = moduloed b (flat_index e) (flat_outcome n s e b) by (denotes b e)
    denotes b _ = tt

    summed : {m : _} (b : List Value) (more : Row_of-FlatSigned m) (i : Index) (o : Outcome) → Denotes b i o → Denotes b (flat_index_sum i more) (flat_sum n s more o b)
    summed b end_of-FlatSigned i o k = k
    summed b (more_of-FlatSigned minus e others) i o k =
        summed b others (add_fixed minus i (flat_index e)) (add minus o (flat_outcome n s e b)) (added b minus i (flat_index e) o (flat_outcome n s e b) k (denotes b e))

  fit_all : (b : List Value) (es : List FlatExpr) (vs : List Value) → list_any (λ (u, v). is_other u v) (zip (map (λ e. flat_outcome n s e b) es) vs) ≡ false → Fit b (map flat_index es) vs
  fit_all b [] vs k = tt
  fit_all b (e ∷ es) [] k = tt
  fit_all b (e ∷ es) (v ∷ vs) k =
      (fits_one b (flat_index e) (flat_outcome n s e b) v (denotes b e) (not_left (is_other (flat_outcome n s e b) v) _ k), fit_all b es vs (not_right (is_other (flat_outcome n s e b) v) _ k))

  module _ (x : FlatElement) (every : List Value) (k : ℕ) (v : Value) where
    -- among these left sides one whose indexes are the element's where the variable has this value
    record Found (all : List (List Index)) : Type 0 where
      by : List Index
      among : Has all by
      values : List Value
      is_value : slice_get values k ≡ Some v
      fit : Fit values by x.indexes

    found_left : (all more : List (List Index)) → Found all → Found (all ++ more)
    found_left all more f = record { by = f.by; among = Has-left more f.among; values = f.values; is_value = f.is_value; fit = f.fit }

    found_right : (all more : List (List Index)) → Found more → Found (all ++ more)
    found_right all more f = record { by = f.by; among = Has-right all f.among; values = f.values; is_value = f.is_value; fit = f.fit }

    found_some : {X : Type 0} (F : X → Walk) (all : List (List Index)) → ((y : X) → Gives (F y) → Found all) → (ys : List X) → Gives (walk.first (map F ys)) → Found all
    found_some F all each [] h = absurd (cc)
    found_some F all each (y ∷ ys) h = elim (gives_first (F y) (walk.first (map F ys)) h) [ inl g ↦ each y g | inr g ↦ found_some F all each ys g ]

    mutual
      found : (count : ℕ) (def : DefBody) (b : List Value) → slice_get b k ≡ Some v → HasVariable k count def → Gives (flat_result n s x every def b) → Found (indexes_assigned def)
      found count Nothing b i h g = absurd (cc)
      found count (Assign left value place offset) b i h g = record {
        by = map flat_index left;
        among = first;
        values = b;
        is_value = i;
        fit = fit_all b left x.indexes (gives_unless (list_any (λ (u, v). is_other u v) (zip (map (λ e. flat_outcome n s e b) left) x.indexes)) _ g);
      }
      found count (If' cond l (more_of-DefBody left end_of-DefBody) r (more_of-DefBody right end_of-DefBody)) b i h g =
          elim (gives_if every (truth (flat_outcome n s cond b)) (flat_result n s x every left b) (flat_result n s x every right b) g) [
            | inl p ↦ found_left (indexes_assigned left) (indexes_assigned right) (found count left b i h.0 p)
            | inr p ↦ found_right (indexes_assigned left) (indexes_assigned right) (found count right b i h.1 p)
          ]
      found count (First' shape parts) b i h g = found_in count parts b i h g
      found count (Forall' var over shape (more_of-DefBody body end_of-DefBody)) b i h g =
          found_some (λ u. flat_result n s x every body (bind b var u)) (indexes_assigned body) (λ u p. found count body (bind b var u) (value_kept b var k u v i h.0) h.1 p) (values_in n over) g

      found_in : {m : _} (count : ℕ) (row : Row_of-DefBody m) (b : List Value) → slice_get b k ≡ Some v → HaveVariable k count row → Gives (flat_results n s x every row b) → Found (indexes_assigned_in row)
      found_in count end_of-DefBody b i h g = absurd (cc)
      found_in count (more_of-DefBody part others) b i h g =
          elim (gives_first (flat_result n s x every part b) (flat_results n s x every others b) g) [
            | inl p ↦ found_left (indexes_assigned part) (indexes_assigned_in others) (found count part b i h.0 p)
            | inr p ↦ found_right (indexes_assigned part) (indexes_assigned_in others) (found_in count others b i h.1 p)
          ]

not_other : (u v : Value) → is_other (Some u) v ≡ false → u ≡ v
not_other u v h = same-is u v (not_false (same u v) h)
  where
    not_false : (t : Bool) → not t ≡ false → t ≡ true
    not_false true e = refl
    not_false false e = absurd (cc)

-- two left sides that fit one element, with the variable at two values
module _ (b c : List Value) (k : ℕ) (v w : Value) (is_v : slice_get b k ≡ Some v) (is_w : slice_get c k ≡ Some w) where
  both_same : (i j : Index) (y : Value) → FitsOne b i y → FitsOne c j y → are_both k i j ≡ true → v ≡ w
  both_same (bare m) (bare l) y p q h =
      let at_m = nat_eq-is m k (left_of (nat_eq m k) (nat_eq l k) h) in
      let at_l = nat_eq-is l k (right_of (nat_eq m k) (nat_eq l k) h) in
      not_other v y (subst (λ o. is_other o y ≡ false) (ap (slice_get b) at_m ∙ is_v) p) ∙ sym (not_other w y (subst (λ o. is_other o y ≡ false) (ap (slice_get c) at_l ∙ is_w) q))
  both_same _ _ y p q h = absurd (cc)

  constants_same : (i j : Index) (y : Value) → FitsOne b i y → FitsOne c j y → are_two_constants i j ≡ true → ⊥
  constants_same (fixed (Some u)) (fixed (Some t)) y p q h =
      clash (subst (λ t. same u t ≡ true) (not_other u y p ∙ sym (not_other t y q)) (same-itself u)) (not-true (same u t) h)
  constants_same _ _ y p q h = cc

  meet : (is js : List Index) (ys : List Value) → length is ≤ length ys → Fit b is ys → Fit c js ys →
      (list_any (λ (i, j). are_two_constants i j) (zip is js) ≡ true) ⊎ (list_any (λ (i, j). are_both k i j) (zip is js) ≡ true) → v ≡ w
  meet [] js ys long p q (inl h) = absurd (cc)
  meet [] js ys long p q (inr h) = absurd (cc)
  meet (i ∷ is) [] ys long p q (inl h) = absurd (cc)
  meet (i ∷ is) [] ys long p q (inr h) = absurd (cc)
  meet (i ∷ is) (j ∷ js) [] long p q h = absurd (omega arith)
  meet (i ∷ is) (j ∷ js) (y ∷ ys) long p q (inl h) = elim (or_cases (are_two_constants i j) _ h) [
    | inl e ↦ absurd (constants_same i j y p.0 q.0 e)
    | inr e ↦ meet is js ys (omega arith) p.1 q.1 (inl e)
  ]
  meet (i ∷ is) (j ∷ js) (y ∷ ys) long p q (inr h) = elim (or_cases (are_both k i j) _ h) [
    | inl e ↦ both_same i j y p.0 q.0 e
    | inr e ↦ meet is js ys (omega arith) p.1 q.1 (inr e)
  ]

-- two left sides differ in two constants, or share the variable
abbrev AreTwo : ℕ → List Index → List Index → Type 0
AreTwo k is js = (list_any (λ (i, j). are_two_constants i j) (zip is js) ≡ true) ⊎ (list_any (λ (i, j). are_both k i j) (zip is js) ≡ true)

two_of : (around k : ℕ) (is js : List Index) → k < around → AreExcused around is js → AreTwo k is js
two_of around k is js l (inl e) = inl e
two_of around k is js l (inr h) = inr (h k l)

shares_itself : (k offset : ℕ) (left : List FlatExpr) (j : ℕ) → slice_get left j ≡ Some (Var k offset) → list_any (λ (i, j). are_both k i j) (zip (map flat_index left) (map flat_index left)) ≡ true
shares_itself k offset [] j e = absurd (cc)
shares_itself k offset (x ∷ left) zero e =
    either_left (list_any (λ (i, j). are_both k i j) (zip (map flat_index left) (map flat_index left)))
    (subst (λ i. are_both k i i ≡ true) (sym (ap flat_index (some_is e))) (rw (nat_eq-itself k) refl))
shares_itself k offset (x ∷ left) (suc j) e = either_right (are_both k (flat_index x) (flat_index x)) (shares_itself k offset left j e)

only_member : {X : Type 0} {x y : X} → Has (x ∷ []) y → y ≡ x
only_member first = refl
only_member (later h) = elim h [ ]

mutual
  has_variable : (around count k : ℕ) (def : DefBody) → k < around → HasNoConflict around count def → HasVariable k count def
  has_variable around count k Nothing l h = tt
  has_variable around count k (Assign left value place offset) l h = h.1 k l
  has_variable around count k (If' cond l' (more_of-DefBody left end_of-DefBody) r (more_of-DefBody right end_of-DefBody)) l h = (has_variable around count k left l h.0, has_variable around count k right l h.1)
  has_variable around count k (First' shape parts) l h = have_variable around count k parts l h
  has_variable around count k (Forall' var over shape (more_of-DefBody body end_of-DefBody)) l h = (subst (λ m. k < m) (sym h.0) l, has_variable (suc around) count k body (omega arith) h.1)

  have_variable : {m : _} (around count k : ℕ) (row : Row_of-DefBody m) → k < around → HaveNoConflict around count row → HaveVariable k count row
  have_variable around count k end_of-DefBody l h = tt
  have_variable around count k (more_of-DefBody part others) l h = (has_variable around count k part l h.0, have_variable around count k others l h.1)

mutual
  is_bound : (around count : ℕ) (def : DefBody) → HasNoConflict around count def → IsBound around count def
  is_bound around count Nothing h = tt
  is_bound around count (Assign left value place offset) h = tt
  is_bound around count (If' cond l (more_of-DefBody left end_of-DefBody) r (more_of-DefBody right end_of-DefBody)) h = (is_bound around count left h.0, is_bound around count right h.1)
  is_bound around count (First' shape parts) h = are_bound around count parts h
  is_bound around count (Forall' var over shape (more_of-DefBody body end_of-DefBody)) h =
      (h.0, subst (λ m. HasVariable m count body) (sym h.0) (has_variable (suc around) count around body (omega arith) h.1), is_bound (suc around) count body h.1)

  are_bound : {m : _} (around count : ℕ) (row : Row_of-DefBody m) → HaveNoConflict around count row → AreBound around count row
  are_bound around count end_of-DefBody h = tt
  are_bound around count (more_of-DefBody part others) h = (is_bound around count part h.0, are_bound around count others h.1)

mutual
  is_short : (around count : ℕ) (def : DefBody) → HasNoConflict around count def → (is : List Index) → Has (indexes_assigned def) is → length is ≤ count
  is_short around count Nothing h is k = elim k [ ]
  is_short around count (Assign left value place offset) h is k = subst (λ m. m ≤ count) (sym (length_map flat_index left) ∙ ap length (sym (only_member k))) h.0
  is_short around count (If' cond l (more_of-DefBody left end_of-DefBody) r (more_of-DefBody right end_of-DefBody)) h is k =
      elim (Has-cases (indexes_assigned left) (indexes_assigned right) k) [ inl p ↦ is_short around count left h.0 is p | inr p ↦ is_short around count right h.1 is p ]
  is_short around count (First' shape parts) h is k = are_short around count parts h is k
  is_short around count (Forall' var over shape (more_of-DefBody body end_of-DefBody)) h is k = is_short (suc around) count body h.1 is k

  are_short : {m : _} (around count : ℕ) (row : Row_of-DefBody m) → HaveNoConflict around count row → (is : List Index) → Has (indexes_assigned_in row) is → length is ≤ count
  are_short around count end_of-DefBody h is k = elim k [ ]
  are_short around count (more_of-DefBody part others) h is k =
      elim (Has-cases (indexes_assigned part) (indexes_assigned_in others) k) [ inl p ↦ is_short around count part h.0 is p | inr p ↦ are_short around count others h.1 is p ]

-- two left sides in one order or the other
abbrev AreTwoEither : ℕ → List Index → List Index → Type 0
AreTwoEither k is js = AreTwo k is js ⊎ AreTwo k js is

two_parts : (around k : ℕ) (iss jss : List (List Index)) → k < around → ((is js : List Index) → Has iss is → Has iss js → AreTwoEither k is js) →
    ((is js : List Index) → Has jss is → Has jss js → AreTwoEither k is js) → EachTwo around iss jss → (is js : List Index) → Has (iss ++ jss) is → Has (iss ++ jss) js → AreTwoEither k is js
two_parts around k iss jss l left right each is js p q = at (Has-cases iss jss p) (Has-cases iss jss q)
  where
    at : Has iss is ⊎ Has jss is → Has iss js ⊎ Has jss js → AreTwoEither k is js
    at (inl p) (inl q) = left is js p q
    at (inr p) (inr q) = right is js p q
    at (inl p) (inr q) = inl (two_of around k is js l (each is js p q))
    at (inr p) (inl q) = inr (two_of around k js is l (each js is q p))

mutual
  any_two : (around count k : ℕ) (def : DefBody) → k < around → HasNoConflict around count def → (is js : List Index) → Has (indexes_assigned def) is → Has (indexes_assigned def) js → AreTwoEither k is js
  any_two around count k Nothing l h is js p q = elim p [ ]
  any_two around count k (Assign left value place offset) l h is js p q =
      let v = h.1 k l in
      inl (inr (subst (λ is. list_any (λ (i, j). are_both k i j) (zip is js) ≡ true) (sym (only_member p))
      (subst (λ js. list_any (λ (i, j). are_both k i j) (zip (map flat_index left) js) ≡ true) (sym (only_member q)) (shares_itself k v.2 left v.0 v.3))))
  any_two around count k (If' cond l' (more_of-DefBody left end_of-DefBody) r (more_of-DefBody right end_of-DefBody)) l h is js p q =
      two_parts around k (indexes_assigned left) (indexes_assigned right) l (any_two around count k left l h.0) (any_two around count k right l h.1) h.2 is js p q
  any_two around count k (First' shape parts) l h is js p q = any_two_in around count k parts l h is js p q
  any_two around count k (Forall' var over shape (more_of-DefBody body end_of-DefBody)) l h is js p q = any_two (suc around) count k body (omega arith) h.1 is js p q

  any_two_in : {m : _} (around count k : ℕ) (row : Row_of-DefBody m) → k < around → HaveNoConflict around count row → (is js : List Index) → Has (indexes_assigned_in row) is → Has (indexes_assigned_in row) js → AreTwoEither k is js
  any_two_in around count k end_of-DefBody l h is js p q = elim p [ ]
  any_two_in around count k (more_of-DefBody part others) l h is js p q =
      two_parts around k (indexes_assigned part) (indexes_assigned_in others) l (any_two around count k part l h.0) (any_two_in around count k others l h.1) h.2 is js p q

module _ (n : Numbered) (s : FlatState) (x : FlatElement) (every : List Value) where
  at_most_one : (around : ℕ) (body : DefBody) → HasNoConflict (suc around) (length x.indexes) body → (b : List Value) → length b ≡ around → (u v : Value) →
      Gives (flat_result n s x every body (bind b around u)) → Gives (flat_result n s x every body (bind b around v)) → u ≡ v
  at_most_one around body h b long u v gives_u gives_v =
      let count = length x.indexes in
      let variable = has_variable (suc around) count around body (omega arith) h in
      let p = found n s x every around u count body (bind b around u) (value_bound b around u long) variable gives_u in
      let q = found n s x every around v count body (bind b around v) (value_bound b around v long) variable gives_v in
      elim (any_two (suc around) count around body (omega arith) h p.by q.by p.among q.among) [
        | inl t ↦ meet p.values q.values around u v p.is_value q.is_value p.by q.by x.indexes (is_short (suc around) count body h p.by p.among) p.fit q.fit t
        | inr t ↦ sym (meet q.values p.values around v u q.is_value p.is_value q.by p.by x.indexes (is_short (suc around) count body h q.by q.among) q.fit p.fit t)
      ]

  mutual
    one_gives : (around : ℕ) (def : DefBody) → HasNoConflict around (length x.indexes) def → OneGives n s x every def
    one_gives around Nothing h = tt
    one_gives around (Assign left value place offset) h = tt
    one_gives around (If' cond l (more_of-DefBody left end_of-DefBody) r (more_of-DefBody right end_of-DefBody)) h = (one_gives around left h.0, one_gives around right h.1)
    one_gives around (First' shape parts) h = one_of_each_gives around parts h
    one_gives around (Forall' var over shape (more_of-DefBody body end_of-DefBody)) h = (
      λ b are long u v p q gives_u gives_v. at_most_one around body h.1 b (long ∙ h.0) u v
          (subst (λ m. Gives (flat_result n s x every body (bind b m u))) h.0 gives_u) (subst (λ m. Gives (flat_result n s x every body (bind b m v))) h.0 gives_v),
      one_gives (suc around) body h.1,
    )

    one_of_each_gives : {m : _} (around : ℕ) (row : Row_of-DefBody m) → HaveNoConflict around (length x.indexes) row → OneOfEachGives n s x every row
    one_of_each_gives around end_of-DefBody h = tt
    one_of_each_gives around (more_of-DefBody part others) h = (one_gives around part h.0, one_of_each_gives around others h.1)

-- a definition without conflicts, for each of its elements
pub is_single : (n : Numbered) (def : Def) (indexes : List Value) (every : List Value) → IsConflictFree (length indexes) def → IsSingle n def indexes every
is_single n def indexes every h = record {
  init_bound = is_bound 0 (length indexes) def.init h.init;
  next_bound = is_bound 0 (length indexes) def.next h.next;
  comb_bound = is_bound 0 (length indexes) def.comb h.comb;
  init_single = λ s k. one_gives n s (record { family = def.family; indexes = indexes }) every 0 def.init h.init;
  next_single = λ s k. one_gives n s (record { family = def.family; indexes = indexes }) every 0 def.next h.next;
  comb_single = λ s k. one_gives n s (record { family = def.family; indexes = indexes }) every 0 def.comb h.comb;
}
