-- Where each value is a class and what is read is kept, each possible result of a part of a definition is its result.
use Rattle.std.proofs.Common.{◌≡◌, ℕ, zero, suc, ◌<◌, List, [], ◌∷◌, ◌++◌, map, length, Bool, true, false, not, if◌then◌else◌, ◌&&◌, ◌||◌, refl, sym, ap, subst, ◌∙◌, inl, inr, Option, Some, None, arith}
use Rattle.std.specs.List.{flat_map, list_any, slice_get, zip}
use Rattle.std.specs.Option.{is_none}
use Rattle.smv_core.specs.Values.{Value, Outcome, Truth, truth, same}
use Rattle.smv_core.specs.Walk as walk
use Rattle.smv_core.specs.Walk.{Walk, if_walk, is_other}
use Rattle.smv_core.specs.Assignments.{Index, fixed, bare, computed, add_fixed, modulo_fixed}
use Rattle.smv_core.specs.FlatMeaning.{Numbered, FlatState, FlatElement, bind, values_in, flat_index, flat_index_sum, flat_outcome, flat_allowed_by, flat_assigned, flat_result, flat_results}
use Rattle.smv_core.specs.declared.flat.Family.{Family}
use Rattle.smv_core.specs.declared.flat.Simple.{Simple as FlatSimple}
use Rattle.smv_core.specs.declared.flat.FlatExpr.{FlatExpr, Number, Var, Loop, Sum', Modulo', Row_of-FlatSigned, end_of-FlatSigned, more_of-FlatSigned, more_of-FlatExpr, end_of-FlatExpr}
use Rattle.smv_core.specs.declared.flat.DefBody.{DefBody, Nothing, Assign, If', First', Forall', Row_of-DefBody, end_of-DefBody, more_of-DefBody}
use Rattle.law_obligations.specs.Sets.{Has, first, later, one_of_each, pairs}
use Rattle.law_obligations.specs.Places.{Place, named, named_in, places_in, AbsOutcome, as_place, bind_place}
use Rattle.law_obligations.specs.May.{AbsState, Kept, seen, may}
use Rattle.law_obligations.specs.Results.{first_of, first_result, taken, is_elsewhere, assigned, results, results_each}
use Rattle.law_obligations.specs.Reads.{is_bound_to, is_own, reads_signed, has_counting, have_counting, part_reads, parts_read}
use Rattle.law_obligations.specs.Cones.{AbsElement, elements_at, elements_read}
use Rattle.law_obligations.specs.Whole.{IsWhole, IsWholeFlat, AreWholeFlats}
use Rattle.law_obligations.proofs.Members.{Has-cases, Has-map, Has-from_map, Has-flat_map, Has-pairs, Has-uncons, any-found, Has-choices}
use Rattle.law_obligations.proofs.OneOfEach.{AreOf, are_of, Has-from_flat_map}
use Rattle.law_obligations.proofs.Filled.{Filled, AllFilled, has_choice, may_filled}
use Rattle.law_obligations.proofs.WalkKeeps.{Related}
use Rattle.law_exact.specs.Exact.{AreKept, Shows, IsSide, IsBoundIndex, IsExactPart, AreExactParts}
use Rattle.law_exact.proofs.Justs.{Just, just-map, EachJust, just-choices}
use Rattle.law_exact.proofs.Outcomes.{seen-is, bound-named, bind-named, kept-left, kept-right, w, places_are, IsIndexOf, index-of, exact}
use Rattle.law_lists.proofs.Booleans.{clash, either_left, either_right}
use Rattle.std.proofs.lemmas.Bool.{cases_Bool}
use Rattle.law_lists.proofs.Lists.{map-map}

or-none : (a b : Bool) → (a || b) ≡ false → (a ≡ false) × (b ≡ false)
or-none false false e = (refl, refl)
or-none true b e = absurd (cc (e))
or-none false true e = absurd (cc (e))

-- ---- lists of results that stand for one result

module _ {X : Type 0} (R : List Value → X → Type 0) where
  abbrev pub AllRelated : List (Option X) → Walk → Type 0
  AllRelated rs v = Filled rs × ((r : Option X) → Has rs r → Related R v r)

  related-one : (v : Walk) (r : Option X) → Related R v r → AllRelated (r ∷ []) v
  related-one v r h = ((r, first), λ q k. only q k)
    where
      only : (q : Option X) → Has (r ∷ []) q → Related R v q
      only _ first = h
      only q (later k) = elim k [ ]

  first-related : (v vs : Walk) (r rs : Option X) → Related R v r → Related R vs rs → Related R (walk.first_of v vs) (first_of r rs)
  first-related None vs None rs p q = q
  first-related (Some ws) vs (Some y) rs p q = p
  first-related None vs (Some y) rs p q = elim p [ ]
  first-related (Some ws) vs None rs p q = elim p [ ]

  abbrev EachRelated : List (List (Option X)) → List Walk → Type 0
  EachRelated [] [] = Unit {0}
  EachRelated [] (v ∷ vs) = ⊥
  EachRelated (rs ∷ rss) [] = ⊥
  EachRelated (rs ∷ rss) (v ∷ vs) = AllRelated rs v × EachRelated rss vs

  picked-related : (rss : List (List (Option X))) (vs : List Walk) (rs : List (Option X)) → EachRelated rss vs → AreOf rss rs → Related R (walk.first vs) (first_result rs)
  picked-related [] [] [] h k = tt
  picked-related [] [] (r ∷ rs) h k = elim k [ ]
  picked-related [] (v ∷ vs) rs h k = elim h [ ]
  picked-related (qs ∷ rss) [] rs h k = elim h [ ]
  picked-related (qs ∷ rss) (v ∷ vs) [] h k = elim k [ ]
  picked-related (qs ∷ rss) (v ∷ vs) (r ∷ rs) h k = first-related v (walk.first vs) r (first_result rs) (h.0.1 r k.0) (picked-related rss vs rs h.1 k.1)

  each-filled : (rss : List (List (Option X))) (vs : List Walk) → EachRelated rss vs → AllFilled rss
  each-filled [] [] h = tt
  each-filled [] (v ∷ vs) h = elim h [ ]
  each-filled (rs ∷ rss) [] h = elim h [ ]
  each-filled (rs ∷ rss) (v ∷ vs) h = (h.0.0, each-filled rss vs h.1)

  firsts-related : (rss : List (List (Option X))) (vs : List Walk) → EachRelated rss vs → AllRelated (map first_result (one_of_each rss)) (walk.first vs)
  firsts-related rss vs h =
      let c = has_choice rss (each-filled rss vs h) in (
        (first_result c.0, Has-map first_result (Has-choices c.1)),
        λ r k. let q = Has-from_map first_result (one_of_each rss) k in subst (Related R (walk.first vs)) (sym q.2) (picked-related rss vs q.0 h (are_of rss q.0 q.1)),
      )

  each-related : {Y : Type 0} (F : Y → List (Option X)) (G : Y → Walk) (ys : List Y) → ((y : Y) → Has ys y → AllRelated (F y) (G y)) → EachRelated (map F ys) (map G ys)
  each-related F G [] h = tt
  each-related F G (y ∷ ys) h = (h y first, each-related F G ys (λ z k. h z (later k)))

  module _ (every : List Value) (everything : X) (all_related : R every everything) where
    taken-related : (c : Truth) (v w : Walk) (q r : Option X) → Related R v q → Related R w r → Related R (if_walk every c v w) (taken everything c q r)
    taken-related (Some true) v w q r h k = h
    taken-related (Some false) v w q r h k = k
    taken-related None None None None None h k = tt
    taken-related None (Some vs) w (Some y) r h k = all_related
    taken-related None None (Some ws) None (Some z) h k = all_related
    taken-related None None w (Some y) r h k = elim h [ ]
    taken-related None (Some vs) w None r h k = elim h [ ]
    taken-related None None None None (Some z) h k = elim k [ ]
    taken-related None None (Some ws) None None h k = elim k [ ]

-- ---- lists of results that are Nothing

abbrev AllNone : {X : Type 0} → List (Option X) → Type 0
AllNone {X} rs = Filled rs × ((r : Option X) → Has rs r → r ≡ None)

none-related : {X : Type 0} (R : List Value → X → Type 0) (rs : List (Option X)) (v : Walk) → AllNone rs → v ≡ None → AllRelated R rs v
none-related R rs v h e = (h.0, λ r k. subst (λ v. Related R v r) (sym e) (subst (Related R None) (sym (h.1 r k)) tt))

taken-none : {X : Type 0} (everything : X) (c : Truth) → taken everything c None None ≡ None
taken-none everything None = refl
taken-none everything (Some true) = refl
taken-none everything (Some false) = refl

if-none : (every : List Value) (c : Truth) → if_walk every c None None ≡ None
if-none every None = refl
if-none every (Some true) = refl
if-none every (Some false) = refl

abbrev EachNone : {X : Type 0} → List (List (Option X)) → Type 0
EachNone [] = Unit {0}
EachNone (rs ∷ rss) = AllNone rs × EachNone rss

picked-none : {X : Type 0} (rss : List (List (Option X))) (rs : List (Option X)) → EachNone rss → AreOf rss rs → first_result rs ≡ None
picked-none [] [] h k = refl
picked-none [] (r ∷ rs) h k = elim k [ ]
picked-none (qs ∷ rss) [] h k = elim k [ ]
picked-none (qs ∷ rss) (r ∷ rs) h k = ap (λ r. first_of r (first_result rs)) (h.0.1 r k.0) ∙ picked-none rss rs h.1 k.1

none-filled : {X : Type 0} (rss : List (List (Option X))) → EachNone rss → AllFilled rss
none-filled [] h = tt
none-filled (rs ∷ rss) h = (h.0.0, none-filled rss h.1)

firsts-none : {X : Type 0} (rss : List (List (Option X))) → EachNone rss → AllNone (map first_result (one_of_each rss))
firsts-none rss h =
    let c = has_choice rss (none-filled rss h) in
    ((first_result c.0, Has-map first_result (Has-choices c.1)), λ r k. let q = Has-from_map first_result (one_of_each rss) k in q.2 ∙ picked-none rss q.0 h (are_of rss q.0 q.1))

each-none : {X Y : Type 0} (F : Y → List (Option X)) (ys : List Y) → ((y : Y) → Has ys y → AllNone (F y)) → EachNone (map F ys)
each-none F [] h = tt
each-none F (y ∷ ys) h = (h y first, each-none F ys (λ z k. h z (later k)))

walks-none : {Y : Type 0} (G : Y → Walk) (ys : List Y) → ((y : Y) → Has ys y → G y ≡ None) → walk.first (map G ys) ≡ None
walks-none G [] h = refl
walks-none G (y ∷ ys) h = ap (λ v. walk.first_of v (walk.first (map G ys))) (h y first) ∙ walks-none G ys (λ z k. h z (later k))

-- ---- indexes

abbrev NotBare : Index → Type 0
NotBare (fixed u) = Unit {0}
NotBare (bare var) = ⊥
NotBare computed = Unit {0}

added-not : (minus : Bool) (i j : Index) → NotBare (add_fixed minus i j)
added-not minus (fixed u) (fixed v) = tt
added-not minus (fixed u) (bare k) = tt
added-not minus (fixed u) computed = tt
added-not minus (bare k) (fixed v) = tt
added-not minus (bare k) (bare l) = tt
added-not minus (bare k) computed = tt
added-not minus computed (fixed v) = tt
added-not minus computed (bare l) = tt
added-not minus computed computed = tt

sum-not : {m : _} (row : Row_of-FlatSigned m) (i : Index) → NotBare i → NotBare (flat_index_sum i row)
sum-not end_of-FlatSigned i h = h
sum-not (more_of-FlatSigned minus e others) i h = sum-not others (add_fixed minus i (flat_index e)) (added-not minus i (flat_index e))

modulo-not : (i : Index) (by : ℕ) → NotBare (modulo_fixed i by)
modulo-not (fixed u) by = tt
modulo-not (bare k) by = tt
modulo-not computed by = tt

not-bare : (i : Index) (var : ℕ) → i ≡ bare var → NotBare i → ⊥
not-bare i var e h = subst NotBare e h

bind-long : (b : List Value) (var : ℕ) (v : Value) → var ≡ length b → length (bind b var v) ≡ suc (length b)
bind-long [] zero v e = refl
bind-long [] (suc var) v e = refl
bind-long (u ∷ b) zero v e = absurd (omega (arith, e))
bind-long (u ∷ b) (suc var) v e = ap suc (bind-long b var v (omega (arith, e)))

bound-some : (b : List Value) (var : ℕ) → var < length b → (v : Value) × (slice_get b var ≡ Some v)
bound-some [] var l = absurd (omega (arith, l))
bound-some (v ∷ b) zero l = (v, refl)
bound-some (u ∷ b) (suc var) l = bound-some b var (omega (arith, l))

module _ (n : Numbered) (s : FlatState) (kept : Kept) (a : AbsState) (shows : Shows kept a s) (some_place : (family : ℕ) (f : Family) → slice_get n.families family ≡ Some f → Filled (places_in (w n) f.value)) where
  sum-bare : {m : _} (row : Row_of-FlatSigned m) (b : List Place) (i : Index) (var : ℕ) → flat_index_sum i row ≡ bare var → (i ≡ bare var) × ((x : AbsElement) → Has (reads_signed (named_in (w n)) (elements_at (w n)) row b) x → ⊥)
  sum-bare end_of-FlatSigned b i var e = (e, λ x h. elim h [ ])
  sum-bare (more_of-FlatSigned minus t others) b i var e =
      absurd (not-bare (flat_index_sum (add_fixed minus i (flat_index t)) others) var e (sum-not others (add_fixed minus i (flat_index t)) (added-not minus i (flat_index t))))

  -- an expression that is a variable alone reads nothing
  bare-reads : (e : FlatExpr) (b : List Place) (var : ℕ) (x : AbsElement) → flat_index e ≡ bare var → Has (elements_read (w n) e b) x → ⊥
  bare-reads (Number value at) b var x e h = elim h [ ]
  bare-reads (Loop value at) b var x e h = elim h [ ]
  bare-reads (Var k at) b var x e h = elim h [ ]
  bare-reads (Sum' f (more_of-FlatExpr head end_of-FlatExpr) shape more) b var x e h =
      let r = sum-bare more b (flat_index head) var e in
      elim (Has-cases (elements_read (w n) head b) (reads_signed (named_in (w n)) (elements_at (w n)) more b) h) [ inl k ↦ bare-reads head b var x r.0 k | inr k ↦ r.1 x k ]
  bare-reads (Modulo' shape (more_of-FlatExpr t end_of-FlatExpr) by at) b var x e h = absurd (not-bare (modulo_fixed (flat_index t) by) var e (modulo-not (flat_index t) by))
  bare-reads _ b var x e h = absurd (cc (e))

  abbrev Mays : List FlatExpr → List Value → List (List AbsOutcome)
  Mays left b = map (λ e. may (w n) kept a e (map named b)) left

  abbrev Are : List FlatExpr → List Value → List Outcome
  Are left b = map (λ e. flat_outcome n s e b) left

  -- some index is a value other than the element's, whatever the indexes may be
  abbrev Elsewhere : List FlatExpr → List Value → List Value → Type 0
  Elsewhere left ys b = ((us : List AbsOutcome) → AreOf (Mays left b) us → list_any (λ (u, q). is_elsewhere u q) (zip us (map named ys)) ≡ true) × (list_any (λ (u, v). is_other u v) (zip (Are left b) ys) ≡ true)

  further : (x : FlatExpr) (left : List FlatExpr) (y : Value) (ys : List Value) (b : List Value) → Elsewhere left ys b → Elsewhere (x ∷ left) (y ∷ ys) b
  further x left y ys b r = (λ us k. behind us k, either_right (is_other (flat_outcome n s x b) y) r.1)
    where
      behind : (us : List AbsOutcome) → AreOf (Mays (x ∷ left) b) us → list_any (λ (u, q). is_elsewhere u q) (zip us (named y ∷ map named ys)) ≡ true
      behind [] k = elim k [ ]
      behind (u ∷ us) k = either_right (is_elsewhere u (named y)) (r.0 us k.1)

  here : (x : FlatExpr) (left : List FlatExpr) (y : Value) (ys : List Value) (b : List Value) → IsWhole n.families x → (var : ℕ) → flat_index x ≡ bare var → var < length b → is_bound_to (slice_get (map named b) var) (named y) ≡ false →
      Elsewhere (x ∷ left) (y ∷ ys) b
  here x left y ys b whole var i l f =
      let v : (v : Value) × (slice_get b var ≡ Some v) = bound-some b var l in
      let outcome : flat_outcome n s x b ≡ Some v.0 = subst (λ i. IsIndexOf n s i (flat_outcome n s x b) b) i (index-of n s x b) ∙ v.1 in
      let differ : same v.0 y ≡ false = subst (λ o. is_bound_to o (named y) ≡ false) (bound-named b var ∙ ap as_place v.1) f in
      let other : not (same v.0 y) ≡ true = ap not differ in (
        λ us k. behind us k (Some (named v.0)) (λ u m. (exact n s kept a shows x b whole (λ z m. absurd (bare-reads x (map named b) var z i m))).1 u m ∙ ap as_place outcome) other,
        either_left (list_any (λ (u, v). is_other u v) (zip (Are left b) ys)) (subst (λ o. is_other o y ≡ true) (sym outcome) other),
      )
    where
      behind : (us : List AbsOutcome) → AreOf (Mays (x ∷ left) b) us → (o : AbsOutcome) → ((u : AbsOutcome) → Has (may (w n) kept a x (map named b)) u → u ≡ o) → is_elsewhere o (named y) ≡ true →
          list_any (λ (u, q). is_elsewhere u q) (zip us (named y ∷ map named ys)) ≡ true
      behind [] k o each e = elim k [ ]
      behind (u ∷ us) k o each e = either_left (list_any (λ (u, q). is_elsewhere u q) (zip us (map named ys))) (subst (λ u. is_elsewhere u (named y) ≡ true) (sym (each u k.0)) e)

  -- a left side that has not the element's own variables is another element's
  elsewhere : (left : List FlatExpr) (ys : List Value) (b : List Value) → ((e : FlatExpr) → Has left e → IsBoundIndex (length b) (flat_index e)) → ((e : FlatExpr) → Has left e → IsWhole n.families e) →
      is_own (map named ys) (map flat_index left) (map named b) ≡ false → Elsewhere left ys b
  elsewhere [] ys b bound whole e = absurd (cc (e))
  elsewhere (x ∷ left) [] b bound whole e = absurd (cc (e))
  elsewhere (x ∷ left) (y ∷ ys) b bound whole e = at (flat_index x) refl (bound x first) e (elsewhere left ys b (λ z k. bound z (later k)) (λ z k. whole z (later k)))
    where
      at : (i : Index) → flat_index x ≡ i → IsBoundIndex (length b) i → is_own (named y ∷ map named ys) (i ∷ map flat_index left) (map named b) ≡ false →
          (is_own (map named ys) (map flat_index left) (map named b) ≡ false → Elsewhere left ys b) → Elsewhere (x ∷ left) (y ∷ ys) b
      at (fixed u) i l e goes = further x left y ys b (goes e)
      at computed i l e goes = further x left y ys b (goes e)
      at (bare var) i l e goes = elim (cases_Bool (is_bound_to (slice_get (map named b) var) (named y))) [
        | inl t ↦ further x left y ys b (goes (subst (λ c. (c && is_own (map named ys) (map flat_index left) (map named b)) ≡ false) t e))
        | inr f ↦ here x left y ys b (whole x first) var i l f
      ]

  each-exact : (left : List FlatExpr) (b : List Value) → ((e : FlatExpr) → Has left e → IsWhole n.families e) → AreKept kept (flat_map (λ e. elements_read (w n) e (map named b)) left) → EachJust (Mays left b) (map as_place (Are left b))
  each-exact [] b h k = tt
  each-exact (e ∷ left) b h k = (
    exact n s kept a shows e b (h e first) (kept-left kept (elements_read (w n) e (map named b)) (flat_map (λ e. elements_read (w n) e (map named b)) left) k),
    each-exact left b (λ z m. h z (later m)) (kept-right kept (elements_read (w n) e (map named b)) (flat_map (λ e. elements_read (w n) e (map named b)) left) k),
  )

  elsewhere-same : (os : List Outcome) (ys : List Value) → list_any (λ (u, q). is_elsewhere u q) (zip (map as_place os) (map named ys)) ≡ list_any (λ (u, v). is_other u v) (zip os ys)
  elsewhere-same [] ys = refl
  elsewhere-same (o ∷ os) [] = refl
  elsewhere-same (None ∷ os) (y ∷ ys) = elsewhere-same os ys
  elsewhere-same (Some v ∷ os) (y ∷ ys) = ap (λ b. not (same v y) || b) (elsewhere-same os ys)

  none-same : (os : List Outcome) → list_any is_none (map as_place os) ≡ list_any is_none os
  none-same [] = refl
  none-same (None ∷ os) = refl
  none-same (Some v ∷ os) = none-same os

  module _ (x : FlatElement) (every : List Value) {X : Type 0} (R : List Value → X → Type 0) (everything : X) (all_related : R every everything) (right : FlatExpr → List Place → X)
      (right_related : (e : FlatExpr) (b : List Value) → IsSide e → IsWhole n.families e → AreKept kept (elements_read (w n) e (map named b)) → R (flat_allowed_by n s every e b) (right e (map named b))) where
    abbrev At : DefBody → List Place → List (Option X)
    At part b = results (w n) kept a (map named x.indexes) everything right part b

    abbrev Counts : DefBody → List Value → Bool
    Counts part b = has_counting (places_in (w n)) (is_own (map named x.indexes)) part (map named b)

    abbrev Reads : DefBody → List Place → List AbsElement
    Reads part b = part_reads (places_in (w n)) (is_own (map named x.indexes)) (named_in (w n)) (elements_at (w n)) part b

    -- a part without an assignment that counts gives Nothing
    abbrev GivesNothing : DefBody → List Value → Type 0
    GivesNothing part b = AllNone (At part (map named b)) × (flat_result n s x every part b ≡ None)

    -- one may set for each index
    all-filled : (left : List FlatExpr) (b : List Value) → AllFilled (Mays left b)
    all-filled [] b = tt
    all-filled (e ∷ left) b = (may_filled (w n) kept a some_place e (map named b), all-filled left b)

    nothing-assigned : (us : List AbsOutcome) (value : FlatExpr) (b : List Place) → list_any (λ (u, q). is_elsewhere u q) (zip us (map named x.indexes)) ≡ true → assigned (w n) kept a (map named x.indexes) everything right us value b ≡ None
    nothing-assigned us value b e = ap (λ c. if c then None else if list_any is_none us then Some everything else Some (right value b)) e

    nothing-walked : (os : List Outcome) (value : FlatExpr) (b : List Value) → list_any (λ (u, v). is_other u v) (zip os x.indexes) ≡ true → flat_assigned n s x every os value b ≡ None
    nothing-walked os value b e = ap (λ c. if c then None else if list_any is_none os then Some every else Some (flat_allowed_by n s every value b)) e

    assigned-related : (os : List Outcome) (value : FlatExpr) (b : List Value) → IsSide value → IsWhole n.families value → AreKept kept (elements_read (w n) value (map named b)) →
        Related R (flat_assigned n s x every os value b) (assigned (w n) kept a (map named x.indexes) everything right (map as_place os) value (map named b))
    assigned-related os value b h k m = rw (elsewhere-same os x.indexes, none-same os) (at (list_any (λ (u, v). is_other u v) (zip os x.indexes)) (list_any is_none os))
      where
        at : (p q : Bool) → Related R (if p then None else if q then Some every else Some (flat_allowed_by n s every value b)) (if p then None else if q then Some everything else Some (right value (map named b)))
        at true q = tt
        at false true = all_related
        at false false = right_related value b h k m

    abbrev Ifs : List AbsOutcome → List (Option X) → List (Option X) → List (Option X)
    Ifs us ls rs = flat_map (λ u. pairs (λ y z. taken everything (seen u) y z ∷ []) ls rs) us

    from-ifs : (us : List AbsOutcome) (ls rs : List (Option X)) (r : Option X) → Has (Ifs us ls rs) r → (u : AbsOutcome) × Has us u × (y : Option X) × Has ls y × (z : Option X) × Has rs z × (r ≡ taken everything (seen u) y z)
    from-ifs us ls rs r h =
        let p = Has-from_flat_map (λ u. pairs (λ y z. taken everything (seen u) y z ∷ []) ls rs) us h in
        let q = Has-from_flat_map (λ y. flat_map (λ z. taken everything (seen p.0) y z ∷ []) rs) ls p.2 in
        let o = Has-from_flat_map (λ z. taken everything (seen p.0) q.0 z ∷ []) rs q.2 in
        (p.0, p.1, q.0, q.1, o.0, o.1, elim (Has-uncons o.2) [ inl e ↦ e | inr k ↦ elim k [ ] ])

    to-ifs : (us : List AbsOutcome) (ls rs : List (Option X)) → Filled us → Filled ls → Filled rs → Filled (Ifs us ls rs)
    to-ifs us ls rs h k m = (taken everything (seen h.0) k.0 m.0, Has-flat_map (λ u. pairs (λ y z. taken everything (seen u) y z ∷ []) ls rs) h.1 (Has-pairs (λ y z. taken everything (seen h.0) y z ∷ []) k.1 m.1 first))

    if-nothing : (us : List AbsOutcome) (ls rs : List (Option X)) → Filled us → AllNone ls → AllNone rs → AllNone (Ifs us ls rs)
    if-nothing us ls rs h k m = (
      to-ifs us ls rs h k.0 m.0,
      λ r i. let q = from-ifs us ls rs r i in
          q.6 ∙ (ap (λ y. taken everything (seen q.0) y q.4) (k.1 q.2 q.3) ∙ (ap (λ z. taken everything (seen q.0) None z) (m.1 q.4 q.5) ∙ taken-none everything (seen q.0))),
    )

    if-related : (us : List AbsOutcome) (o : Outcome) (ls rs : List (Option X)) (v v' : Walk) → Just us (as_place o) → AllRelated R ls v → AllRelated R rs v' → AllRelated R (Ifs us ls rs) (if_walk every (truth o) v v')
    if-related us o ls rs v v' h k m = (
      to-ifs us ls rs (as_place o, h.0) k.0 m.0,
      λ r i. let q = from-ifs us ls rs r i in
          subst (Related R (if_walk every (truth o) v v')) (sym (q.6 ∙ ap (λ t. taken everything t q.2 q.4) (ap seen (h.1 q.0 q.1) ∙ seen-is o)))
          (taken-related R every everything all_related (truth o) v v' q.2 q.4 (k.1 q.2 q.3) (m.1 q.4 q.5)),
    )

    not-counted : (body : DefBody) (b : List Value) (var : ℕ) (over : FlatSimple) (v : Value) → Has (values_in n over) v →
        list_any (λ p. has_counting (places_in (w n)) (is_own (map named x.indexes)) body (bind_place (map named b) var p)) (places_in (w n) over) ≡ false → Counts body (bind b var v) ≡ false
    not-counted body b var over v m e = at (Counts body (bind b var v)) refl
      where
        at : (c : Bool) → Counts body (bind b var v) ≡ c → Counts body (bind b var v) ≡ false
        at false i = i
        at true i = absurd (clash (any-found (λ p. has_counting (places_in (w n)) (is_own (map named x.indexes)) body (bind_place (map named b) var p)) (subst (λ ps. Has ps (named v)) (sym (places_are n over)) (Has-map named m))
            (subst (λ ps. has_counting (places_in (w n)) (is_own (map named x.indexes)) body ps ≡ true) (sym (bind-named b var v)) i)) e)

    body-kept : (body : DefBody) (b : List Value) (var : ℕ) (over : FlatSimple) (v : Value) → Has (values_in n over) v → AreKept kept (flat_map (λ p. Reads body (bind_place (map named b) var p)) (places_in (w n) over)) →
        AreKept kept (Reads body (map named (bind b var v)))
    body-kept body b var over v i m z j = m z (Has-flat_map (λ p. Reads body (bind_place (map named b) var p)) (subst (λ ps. Has ps (named v)) (sym (places_are n over)) (Has-map named i))
        (subst (λ ps. Has (Reads body ps) z) (sym (bind-named b var v)) j))

    -- the results of the parts of a block, in their order
    abbrev listed : {m : _} → Row_of-DefBody m → List Value → List Walk
    listed end_of-DefBody b = []
    listed (more_of-DefBody part others) b = flat_result n s x every part b ∷ listed others b

    listed-first : {m : _} (parts : Row_of-DefBody m) (b : List Value) → flat_results n s x every parts b ≡ walk.first (listed parts b)
    listed-first end_of-DefBody b = refl
    listed-first (more_of-DefBody part others) b = ap (λ v. walk.first_of (flat_result n s x every part b) v) (listed-first others b)

    mutual
      gives-nothing : (part : DefBody) (b : List Value) → IsExactPart (length b) part → IsWholeFlat n.families part → Counts part b ≡ false → GivesNothing part b
      gives-nothing Nothing b h k e = (((None, first), λ r m. only r m), refl)
        where
          only : (r : Option X) → Has {X = Option X} (None ∷ []) r → r ≡ None
          only _ first = refl
          only r (later m) = elim m [ ]
      gives-nothing (Assign left value place at) b h k e =
          let both = elsewhere left x.indexes b h.0 k.0 e in
          let f : List AbsOutcome → Option X = λ us. assigned (w n) kept a (map named x.indexes) everything right us value (map named b) in
          let c = has_choice (Mays left b) (all-filled left b) in (
            (
              (f c.0, Has-map f (Has-choices c.1)),
              λ r m. let q = Has-from_map f (one_of_each (Mays left b)) m in
                  q.2 ∙ nothing-assigned q.0 value (map named b) (both.0 q.0 (are_of (Mays left b) q.0 q.1)),
            ),
            nothing-walked (Are left b) value b both.1,
          )
      gives-nothing (If' test l (more_of-DefBody left end_of-DefBody) r (more_of-DefBody right' end_of-DefBody)) b h k e =
          let o = or-none (Counts left b) (Counts right' b) e in
          let p = gives-nothing left b h.0 k.1 o.0 in
          let q = gives-nothing right' b h.1 k.2 o.1 in (
            if-nothing (may (w n) kept a test (map named b)) (At left (map named b)) (At right' (map named b)) (may_filled (w n) kept a some_place test (map named b)) p.0 q.0,
            ap (λ v. if_walk every (truth (flat_outcome n s test b)) v (flat_result n s x every right' b)) p.1 ∙ (ap (λ v. if_walk every (truth (flat_outcome n s test b)) None v) q.1 ∙ if-none every (truth (flat_outcome n s test b))),
          )
      gives-nothing (First' shape parts) b h k e = let r = give-nothing parts b h k e in (firsts-none (results_each (w n) kept a (map named x.indexes) everything right parts (map named b)) r.0, r.1)
      gives-nothing (Forall' var over shape (more_of-DefBody body end_of-DefBody)) b h k e =
          let each : (v : Value) → Has (values_in n over) v → GivesNothing body (bind b var v) =
          λ v m. gives-nothing body (bind b var v) (subst (λ c. IsExactPart c body) (sym (bind-long b var v h.0)) h.1) k (not-counted body b var over v m e) in (
            subst (λ ps. AllNone (map first_result (one_of_each (map (λ p. At body (bind_place (map named b) var p)) ps)))) (sym (places_are n over))
                (subst (λ rss. AllNone (map first_result (one_of_each rss))) (sym (map-map (λ p. At body (bind_place (map named b) var p)) named (values_in n over)))
                (firsts-none (map (λ v. At body (bind_place (map named b) var (named v))) (values_in n over))
                (each-none (λ v. At body (bind_place (map named b) var (named v))) (values_in n over) (λ v m. subst (λ ps. AllNone (At body ps)) (sym (bind-named b var v)) (each v m).0)))),
            walks-none (λ v. flat_result n s x every body (bind b var v)) (values_in n over) (λ v m. (each v m).1),
          )

      give-nothing : {m : _} (parts : Row_of-DefBody m) (b : List Value) → AreExactParts (length b) parts → AreWholeFlats n.families parts → have_counting (places_in (w n)) (is_own (map named x.indexes)) parts (map named b) ≡ false →
          EachNone (results_each (w n) kept a (map named x.indexes) everything right parts (map named b)) × (flat_results n s x every parts b ≡ None)
      give-nothing end_of-DefBody b h k e = (tt, refl)
      give-nothing (more_of-DefBody part others) b h k e =
          let o = or-none (Counts part b) (have_counting (places_in (w n)) (is_own (map named x.indexes)) others (map named b)) e in
          let p = gives-nothing part b h.0 k.0 o.0 in
          let q = give-nothing others b h.1 k.1 o.1 in
          ((p.0, q.0), ap (λ v. walk.first_of v (flat_results n s x every others b)) p.1 ∙ q.1)

    mutual
      pub part-related : (part : DefBody) (b : List Value) → IsExactPart (length b) part → IsWholeFlat n.families part → AreKept kept (Reads part (map named b)) → AllRelated R (At part (map named b)) (flat_result n s x every part b)
      part-related Nothing b h k m = related-one R None None tt
      part-related (Assign left value place at) b h k m = by_test (is_own (map named x.indexes) (map flat_index left) (map named b)) refl m
        where
          by_test : (c : Bool) → is_own (map named x.indexes) (map flat_index left) (map named b) ≡ c → AreKept kept (if c then flat_map (λ e. elements_read (w n) e (map named b)) left ++ elements_read (w n) value (map named b) else []) →
              AllRelated R (At (Assign left value place at) (map named b)) (flat_result n s x every (Assign left value place at) b)
          by_test true e m =
              let sides = flat_map (λ e. elements_read (w n) e (map named b)) left in
              let f : List AbsOutcome → Option X = λ us. assigned (w n) kept a (map named x.indexes) everything right us value (map named b) in
              let one : Just (map f (one_of_each (Mays left b))) (f (map as_place (Are left b))) = just-map f (just-choices (Mays left b) (map as_place (Are left b)) (each-exact left b k.0 (kept-left kept sides (elements_read (w n) value (map named b)) m))) in (
                (f (map as_place (Are left b)), one.0),
                λ r i. subst (Related R (flat_assigned n s x every (Are left b) value b)) (sym (one.1 r i))
                    (assigned-related (Are left b) value b h.1 k.1 (kept-right kept sides (elements_read (w n) value (map named b)) m)),
              )
          by_test false e m = let r = gives-nothing (Assign left value place at) b h k e in none-related R (At (Assign left value place at) (map named b)) (flat_result n s x every (Assign left value place at) b) r.0 r.1
      part-related (If' test l (more_of-DefBody left end_of-DefBody) r (more_of-DefBody right' end_of-DefBody)) b h k m =
          by_test (Counts left b || Counts right' b) refl m (λ i. part-related left b h.0 k.1 i) (λ i. part-related right' b h.1 k.2 i)
        where
          by_test : (c : Bool) → (Counts left b || Counts right' b) ≡ c → AreKept kept (((if c then elements_read (w n) test (map named b) else []) ++ Reads left (map named b)) ++ Reads right' (map named b)) →
              (AreKept kept (Reads left (map named b)) → AllRelated R (At left (map named b)) (flat_result n s x every left b)) → (AreKept kept (Reads right' (map named b)) → AllRelated R (At right' (map named b)) (flat_result n s x every right' b)) →
              AllRelated R (At (If' test l (more_of-DefBody left end_of-DefBody) r (more_of-DefBody right' end_of-DefBody)) (map named b)) (flat_result n s x every (If' test l (more_of-DefBody left end_of-DefBody) r (more_of-DefBody right' end_of-DefBody)) b)
          by_test true e m goes_left goes_right =
              let front = kept-left kept (elements_read (w n) test (map named b) ++ Reads left (map named b)) (Reads right' (map named b)) m in
              if-related (may (w n) kept a test (map named b)) (flat_outcome n s test b) (At left (map named b)) (At right' (map named b)) (flat_result n s x every left b) (flat_result n s x every right' b)
              (exact n s kept a shows test b k.0 (kept-left kept (elements_read (w n) test (map named b)) (Reads left (map named b)) front))
              (goes_left (kept-right kept (elements_read (w n) test (map named b)) (Reads left (map named b)) front))
              (goes_right (kept-right kept (elements_read (w n) test (map named b) ++ Reads left (map named b)) (Reads right' (map named b)) m))
          by_test false e m goes_left goes_right =
              let q = gives-nothing (If' test l (more_of-DefBody left end_of-DefBody) r (more_of-DefBody right' end_of-DefBody)) b h k e in
              none-related R (At (If' test l (more_of-DefBody left end_of-DefBody) r (more_of-DefBody right' end_of-DefBody)) (map named b)) (flat_result n s x every (If' test l (more_of-DefBody left end_of-DefBody) r (more_of-DefBody right' end_of-DefBody)) b) q.0 q.1
      part-related (First' shape parts) b h k m =
          subst (AllRelated R (map first_result (one_of_each (results_each (w n) kept a (map named x.indexes) everything right parts (map named b))))) (sym (listed-first parts b))
          (firsts-related R (results_each (w n) kept a (map named x.indexes) everything right parts (map named b)) (listed parts b) (parts-related parts b h k m))
      part-related (Forall' var over shape (more_of-DefBody body end_of-DefBody)) b h k m =
          subst (λ ps. AllRelated R (map first_result (one_of_each (map (λ p. At body (bind_place (map named b) var p)) ps))) (flat_result n s x every (Forall' var over shape (more_of-DefBody body end_of-DefBody)) b)) (sym (places_are n over))
          (subst (λ rss. AllRelated R (map first_result (one_of_each rss)) (flat_result n s x every (Forall' var over shape (more_of-DefBody body end_of-DefBody)) b)) (sym (map-map (λ p. At body (bind_place (map named b) var p)) named (values_in n over)))
          (firsts-related R (map (λ v. At body (bind_place (map named b) var (named v))) (values_in n over)) (map (λ v. flat_result n s x every body (bind b var v)) (values_in n over))
          (each-related R (λ v. At body (bind_place (map named b) var (named v))) (λ v. flat_result n s x every body (bind b var v)) (values_in n over)
          (λ v i. subst (λ ps. AllRelated R (At body ps) (flat_result n s x every body (bind b var v))) (sym (bind-named b var v))
          (part-related body (bind b var v) (subst (λ c. IsExactPart c body) (sym (bind-long b var v h.0)) h.1) k (body-kept body b var over v i m))))))

      parts-related : {m : _} (parts : Row_of-DefBody m) (b : List Value) → AreExactParts (length b) parts → AreWholeFlats n.families parts →
          AreKept kept (parts_read (places_in (w n)) (is_own (map named x.indexes)) (named_in (w n)) (elements_at (w n)) parts (map named b)) →
          EachRelated R (results_each (w n) kept a (map named x.indexes) everything right parts (map named b)) (listed parts b)
      parts-related end_of-DefBody b h k m = tt
      parts-related (more_of-DefBody part others) b h k m = (
        part-related part b h.0 k.0 (kept-left kept (Reads part (map named b)) (parts_read (places_in (w n)) (is_own (map named x.indexes)) (named_in (w n)) (elements_at (w n)) others (map named b)) m),
        parts-related others b h.1 k.1 (kept-right kept (Reads part (map named b)) (parts_read (places_in (w n)) (is_own (map named x.indexes)) (named_in (w n)) (elements_at (w n)) others (map named b)) m),
      )
