-- What a definition gives an element at numbers and classes is among its possible results in the picture.
use Rattle.std.proofs.Common.{◌≡◌, ℕ, zero, suc, ◌<◌, List, [], ◌∷◌, map, length, Bool, true, false, not, ◌||◌, if◌then◌else◌, refl, sym, ap, subst, ◌∙◌, ◌⊎◌, inl, inr, arith, Option, Some, None}
use Rattle.std.specs.List.{list_any, slice_get, zip}
use Rattle.std.specs.Option.{is_none}
use Rattle.std.proofs.lemmas.Bool.{cases_Bool}
use Rattle.law_lists.proofs.Lists.{length_map}
use Rattle.law_lists.proofs.Booleans.{either_left, either_right, clash}
use Rattle.law_lists.proofs.Options.{some_is}
use Rattle.smv_core.specs.Values.{Name, Value, Outcome, Truth, truth, same, Simple, range, choice, scalarset, ordset}
use Rattle.smv_core.specs.Walk as walk
use Rattle.smv_core.specs.Walk.{Walk, if_walk, is_other}
use Rattle.smv_core.specs.FlatMeaning.{Numbered, FlatState, FlatElement, bind, values_in, simple_in, flat_outcome, flat_allowed_by, flat_assigned, flat_result, flat_results}
use Rattle.smv_core.specs.declared.flat.Simple.{Simple as FlatSimple}
use Rattle.smv_core.specs.declared.flat.FlatExpr.{FlatExpr, Var}
use Rattle.smv_core.specs.declared.flat.DefBody.{DefBody, Nothing, Assign, If', First', Forall', Row_of-DefBody, end_of-DefBody, more_of-DefBody}
use Rattle.smv_core.specs.declared.abstract_type.AbsType.{AbsType}
use Rattle.law_obligations.specs.Sets.{Has, first, later, one_of_each, pairs}
use Rattle.law_obligations.specs.Places.{Place, named, rest, World, world, rests_of, named_in, rests_in, places_in, same_place, is_named, AbsOutcome, equal_places, bind_place}
use Rattle.law_obligations.specs.May.{AbsState, Kept, seen, may}
use Rattle.law_obligations.specs.Results.{first_of, first_result, taken, is_elsewhere, assigned, results, results_each}
use Rattle.law_obligations.specs.Pictures.{Placing, placed, ArePlaced, IsState, IsPicture, IsValue, AreValues}
use Rattle.law_obligations.specs.Bound.{HasVariable, HaveVariable, IsBound, AreBound, OneGives, OneOfEachGives, AreAtClasses}
use Rattle.law_obligations.proofs.Members.{Has-cases, Has-uncons, Has-map, Has-from_map, Has-flat_map, Has-pairs, Picks, Has-choices, Chosen, choose_each}
use Rattle.law_obligations.proofs.Members.Picks.{none as no_pick, more as one_more}
use Rattle.law_obligations.proofs.Same.{same-is}
use Rattle.law_obligations.proofs.Facts.{IsOutcome, placed_outcome, of_type, equal_values}
use Rattle.law_obligations.proofs.Operators.{seen_placed}
use Rattle.law_obligations.proofs.MayKeeps.{bind_are, bind_placed, outcome_is, keeps}
use Rattle.law_obligations.proofs.Filled.{has_choice, filled_each}
use Rattle.law_obligations.proofs.NeverEmpty.{may_filled}

-- variables that are bound
place_kept : (b : List Place) (other var : ℕ) (p q : Place) → slice_get b var ≡ Some q → var < other → slice_get (bind_place b other p) var ≡ Some q
place_kept [] other var p q e l = absurd (cc)
place_kept (x ∷ b) zero var p q e l = absurd (omega arith)
place_kept (x ∷ b) (suc other) zero p q e l = e
place_kept (x ∷ b) (suc other) (suc var) p q e l = place_kept b other var p q e (omega arith)

pub value_kept : (b : List Value) (other var : ℕ) (u v : Value) → slice_get b var ≡ Some v → var < other → slice_get (bind b other u) var ≡ Some v
value_kept [] other var u v e l = absurd (cc)
value_kept (x ∷ b) zero var u v e l = absurd (omega arith)
value_kept (x ∷ b) (suc other) zero u v e l = e
value_kept (x ∷ b) (suc other) (suc var) u v e l = value_kept b other var u v e (omega arith)

place_bound : (b : List Place) (var : ℕ) (p : Place) → length b ≡ var → slice_get (bind_place b var p) var ≡ Some p
place_bound [] zero p e = refl
place_bound [] (suc var) p e = absurd (omega arith)
place_bound (x ∷ b) zero p e = absurd (omega arith)
place_bound (x ∷ b) (suc var) p e = place_bound b var p (omega arith)

pub value_bound : (b : List Value) (var : ℕ) (v : Value) → length b ≡ var → slice_get (bind b var v) var ≡ Some v
value_bound [] zero v e = refl
value_bound [] (suc var) v e = absurd (omega arith)
value_bound (x ∷ b) zero v e = absurd (omega arith)
value_bound (x ∷ b) (suc var) v e = value_bound b var v (omega arith)

bound_length : (b : List Value) (var : ℕ) (v : Value) → length b ≡ var → length (bind b var v) ≡ suc (length b)
bound_length [] zero v e = refl
bound_length [] (suc var) v e = absurd (omega arith)
bound_length (x ∷ b) zero v e = absurd (omega arith)
bound_length (x ∷ b) (suc var) v e = ap suc (bound_length b var v (omega arith))

-- indexes at numbers, constants and classes
abbrev AllNamed : List Place → Type 0
AllNamed [] = Unit {0}
AllNamed (q ∷ qs) = (is_named q ≡ true) × AllNamed qs

classes_named : (n : Numbered) (spots : Placing) (xs : List Value) → AreAtClasses n spots xs → AllNamed (map (placed spots) xs)
classes_named n spots [] h = tt
classes_named n spots (x ∷ xs) h = (h.0.1, classes_named n spots xs h.1)

class_named : (n : Numbered) (spots : Placing) (xs : List Value) (x : Value) → AreAtClasses n spots xs → Has xs x → IsValue n x × (is_named (placed spots x) ≡ true)
class_named n spots [] x h k = elim k [ ]
class_named n spots (y ∷ xs) _ h first = h.0
class_named n spots (y ∷ xs) x h (later k) = class_named n spots xs x h.1 k

rest_elsewhere : (r : Value) (q : Place) → is_named q ≡ true → is_elsewhere (Some (rest r)) q ≡ true
rest_elsewhere r (named v) e = refl
rest_elsewhere r (rest v) e = absurd (cc)

rest_not_named : (w : World) (t : Simple) (p : Place) → Has (rests_of w t) p → (r : Value) × (p ≡ rest r)
rest_not_named w (range low high) p h = elim h [ ]
rest_not_named w (choice names) p h = elim h [ ]
rest_not_named w (scalarset t) p h = let g = Has-from_map (λ g. rest _) _ h in (_, g.2)
rest_not_named w (ordset t) p h = let g = Has-from_map (λ g. rest _) _ h in (_, g.2)

taken_none : {X : Type 0} (everything : X) (c : Truth) → taken everything c None None ≡ None
taken_none everything None = refl
taken_none everything (Some true) = refl
taken_none everything (Some false) = refl

if_none : (every : List Value) (c : Truth) → if_walk every c None None ≡ None
if_none every None = refl
if_none every (Some true) = refl
if_none every (Some false) = refl

-- lists of nothing
none_list : {X Y : Type 0} (F : X → List (Option Y)) (xs : List X) → ((x : X) → Has xs x → Has (F x) None) → (rs : List (Option Y)) × Picks (map F xs) rs × (first_result rs ≡ None)
none_list F [] h = ([], no_pick, refl)
none_list F (x ∷ xs) h = let r = none_list F xs (λ y k. h y (later k)) in (None ∷ r.0, one_more (h x first) r.1, r.2)

first_nones : (F : Value → Walk) (xs : List Value) → ((x : Value) → Has xs x → F x ≡ None) → walk.first (map F xs) ≡ None
first_nones F [] h = refl
first_nones F (x ∷ xs) h = rw (h x first) (first_nones F xs (λ y k. h y (later k)))

is_none_is : (o : Walk) → is_none o ≡ true → o ≡ None
is_none_is None e = refl
is_none_is (Some vs) e = absurd (cc)

-- the value that gives a result, if one does
abbrev Giver : (Value → Walk) → List Value → Type 0
Giver F xs = ((v : Value) × Has xs v × (is_none (F v) ≡ false) × (walk.first (map F xs) ≡ F v)) ⊎ ((v : Value) → Has xs v → F v ≡ None)

giver : (F : Value → Walk) (xs : List Value) → Giver F xs
giver F [] = inr (λ v h. elim h [ ])
giver F (x ∷ xs) = at (F x) refl (giver F xs)
  where
    nothing_there : F x ≡ None → ((v : Value) → Has xs v → F v ≡ None) → (v : Value) → Has (x ∷ xs) v → F v ≡ None
    nothing_there e h v k = elim (Has-uncons k) [ inl i ↦ subst (λ z. F z ≡ None) (sym i) e | inr l ↦ h v l ]

    at : (o : Walk) → F x ≡ o → Giver F xs → Giver F (x ∷ xs)
    at None e (inl (v, h, g, i)) = inl (v, later h, g, ap (λ o. walk.first_of o (walk.first (map F xs))) e ∙ i)
    at None e (inr h) = inr (nothing_there e h)
    at (Some vs) e r = inl (x, first, ap is_none e, ap (λ o. walk.first_of o (walk.first (map F xs))) e ∙ sym e)

module _ (n : Numbered) (types : Name → AbsType) (spots : Placing) (facts : ArePlaced n (world n types) spots) (s : FlatState) (is_state : IsState n s) where
  -- an index outcome that differs from the element's differs in the picture
  same_spot : (u v : Value) → IsValue n u → IsValue n v → is_named (placed spots v) ≡ true → same u v ≡ same_place (placed spots u) (placed spots v)
  same_spot u v p q e = at (placed spots u) (placed spots v) e (equal_values n types spots facts u v p q)
    where
      at : (x y : Place) → is_named y ≡ true → Has (equal_places x y) (Some (same u v)) → same u v ≡ same_place x y
      at (named x) (named y) e h = elim (Has-uncons h) [ inl i ↦ some_is i | inr k ↦ elim k [ ] ]
      at (rest x) (named y) e h = elim (Has-uncons h) [ inl i ↦ some_is i | inr k ↦ elim k [ ] ]
      at x (rest y) e h = absurd (cc)

  abbrev AreOutcomesOf : List Outcome → Type 0
  AreOutcomesOf us = (u : Outcome) → Has us u → IsOutcome n u

  elsewhere_same : (us : List Outcome) (xs : List Value) → AreOutcomesOf us → AreAtClasses n spots xs →
      list_any (λ (u, q). is_elsewhere u q) (zip (map (placed_outcome spots) us) (map (placed spots) xs)) ≡ list_any (λ (u, v). is_other u v) (zip us xs)
  elsewhere_same [] xs h k = refl
  elsewhere_same (u ∷ us) [] h k = refl
  elsewhere_same (None ∷ us) (x ∷ xs) h k = elsewhere_same us xs (λ u i. h u (later i)) k.1
  elsewhere_same (Some u ∷ us) (x ∷ xs) h k =
      rw (sym (same_spot u x (h (Some u) first) k.0.0 k.0.1)) (ap (λ b. not (same u x) || b) (elsewhere_same us xs (λ u i. h u (later i)) k.1))

  none_same : (us : List Outcome) → list_any is_none (map (placed_outcome spots) us) ≡ list_any is_none us
  none_same [] = refl
  none_same (None ∷ us) = refl
  none_same (Some u ∷ us) = none_same us

  outcomes_of : (left : List FlatExpr) (b : List Value) → AreValues n b → AreOutcomesOf (map (λ e. flat_outcome n s e b) left)
  outcomes_of left b h u k = let e = Has-from_map (λ e. flat_outcome n s e b) left k in subst (IsOutcome n) (sym e.2) (outcome_is n types spots facts s is_state e.0 b h)

  -- a value other than the element's index at the variable's place gives nothing
  module _ (x : FlatElement) (every : List Value) where
    elsewhere_value : (left : List FlatExpr) (b : List Value) (xs : List Value) (j : ℕ) (var offset : ℕ) (v : Value) → j < length xs → slice_get left j ≡ Some (Var var offset) → slice_get b var ≡ Some v →
        ((y : Value) → Has xs y → same v y ≡ false) → list_any (λ (u, v). is_other u v) (zip (map (λ e. flat_outcome n s e b) left) xs) ≡ true
    elsewhere_value [] b xs j var offset v l e i h = absurd (cc)
    elsewhere_value (y ∷ left) b [] j var offset v l e i h = absurd (omega arith)
    elsewhere_value (y ∷ left) b (z ∷ xs) zero var offset v l e i h =
        either_left (list_any (λ (u, v). is_other u v) (zip (map (λ e. flat_outcome n s e b) left) xs))
        (subst (λ o. is_other o z ≡ true) (sym (ap (λ e. flat_outcome n s e b) (some_is e) ∙ i)) (ap not (h z first)))
    elsewhere_value (y ∷ left) b (z ∷ xs) (suc j) var offset v l e i h =
        either_right (is_other (flat_outcome n s y b) z) (elsewhere_value left b xs j var offset v (omega arith) e i (λ y k. h y (later k)))

    mutual
      nothing_at : (def : DefBody) (b : List Value) (var : ℕ) (v : Value) → slice_get b var ≡ Some v → ((y : Value) → Has x.indexes y → same v y ≡ false) → HasVariable var (length x.indexes) def →
          flat_result n s x every def b ≡ None
      nothing_at Nothing b var v i h k = refl
      nothing_at (Assign left value place offset) b var v i h (j, l, o, e) = rw (elsewhere_value left b x.indexes j var o v l e i h) refl
      nothing_at (If' cond l (more_of-DefBody left end_of-DefBody) r (more_of-DefBody right end_of-DefBody)) b var v i h k =
          rw (nothing_at left b var v i h k.0, nothing_at right b var v i h k.1) (if_none every (truth (flat_outcome n s cond b)))
      nothing_at (First' shape parts) b var v i h k = nothing_in parts b var v i h k
      nothing_at (Forall' other over shape (more_of-DefBody body end_of-DefBody)) b var v i h k =
          first_nones (λ u. flat_result n s x every body (bind b other u)) (values_in n over) (λ u m. nothing_at body (bind b other u) var v (value_kept b other var u v i k.0) h k.1)

      nothing_in : {m : _} (row : Row_of-DefBody m) (b : List Value) (var : ℕ) (v : Value) → slice_get b var ≡ Some v → ((y : Value) → Has x.indexes y → same v y ≡ false) → HaveVariable var (length x.indexes) row →
          flat_results n s x every row b ≡ None
      nothing_in end_of-DefBody b var v i h k = refl
      nothing_in (more_of-DefBody part others) b var v i h k = rw (nothing_at part b var v i h k.0) (nothing_in others b var v i h k.1)

  module _ (kept : Kept) (a : AbsState) (indexes : List Place) (all_named : AllNamed indexes) (count : ℕ) (counted : count ≡ length indexes) {X : Type 0} (everything : X) (right : FlatExpr → List Place → X) where
    -- so does a rest
    elsewhere_rest : (left : List FlatExpr) (b : List Place) (qs : List Place) (us : List AbsOutcome) (j : ℕ) (var offset : ℕ) (r : Value) → AllNamed qs → j < length qs → slice_get left j ≡ Some (Var var offset) →
        slice_get b var ≡ Some (rest r) → Picks (map (λ e. may (world n types) kept a e b) left) us → list_any (λ (u, q). is_elsewhere u q) (zip us qs) ≡ true
    elsewhere_rest [] b qs us j var offset r c l e i p = absurd (cc)
    elsewhere_rest (y ∷ left) b [] us j var offset r c l e i p = absurd (omega arith)
    elsewhere_rest (y ∷ left) b (q ∷ qs) _ zero var offset r c l e i (one_more {x = u} {ys = us} h others) =
        either_left (list_any (λ (u, q). is_elsewhere u q) (zip us qs))
        (subst (λ o. is_elsewhere o q ≡ true) (sym (only (subst (λ z. Has (may (world n types) kept a z b) u) (some_is e) h) ∙ i)) (rest_elsewhere r q c.0))
      where
        only : {u o : AbsOutcome} → Has (o ∷ []) u → u ≡ o
        only first = refl
        only (later h) = elim h [ ]
    elsewhere_rest (y ∷ left) b (q ∷ qs) _ (suc j) var offset r c l e i (one_more {x = u} {ys = us} h others) =
        either_right (is_elsewhere u q) (elsewhere_rest left b qs us j var offset r c.1 (omega arith) e i others)

    abbrev Results : DefBody → List Place → List (Option X)
    Results def b = results (world n types) kept a indexes everything right def b

    mutual
      nothing_at_rest : (def : DefBody) (b : List Place) (var : ℕ) (r : Value) → slice_get b var ≡ Some (rest r) → HasVariable var count def → Has (Results def b) None
      nothing_at_rest Nothing b var r i k = first
      nothing_at_rest (Assign left value place offset) b var r i (j, l, o, e) =
          let us = has_choice (map (λ e. may (world n types) kept a e b) left) (filled_each (λ e. may (world n types) kept a e b) left (λ e. may_filled n types spots facts s is_state kept a e b)) in
          subst (Has (Results (Assign left value place offset) b))
          (by_test (list_any is_none us.0) (right value b) (elsewhere_rest left b indexes us.0 j var o r all_named (omega (arith, counted)) e i us.1))
          (Has-map (λ us. assigned (world n types) kept a indexes everything right us value b) (Has-choices us.1))
        where
          by_test : {t : Bool} (u : Bool) (y : X) → t ≡ true → (if t then None else if u then Some everything else Some y) ≡ None
          by_test u y e = rw e refl
      nothing_at_rest (If' cond l (more_of-DefBody left end_of-DefBody) r' (more_of-DefBody right' end_of-DefBody)) b var r i k =
          let u = may_filled n types spots facts s is_state kept a cond b in
          Has-flat_map (λ u. pairs (λ x y. taken everything (seen u) x y ∷ []) (Results left b) (Results right' b)) u.1
          (Has-pairs (λ x y. taken everything (seen u.0) x y ∷ []) (nothing_at_rest left b var r i k.0) (nothing_at_rest right' b var r i k.1)
          (subst (λ z. Has (z ∷ []) None) (sym (taken_none everything (seen u.0))) first))
      nothing_at_rest (First' shape parts) b var r i k =
          let rs = nothing_in_rest parts b var r i k in
          subst (Has (Results (First' shape parts) b)) rs.2 (Has-map first_result (Has-choices rs.1))
      nothing_at_rest (Forall' other over shape (more_of-DefBody body end_of-DefBody)) b var r i k =
          let rs = none_list (λ p. Results body (bind_place b other p)) (places_in (world n types) over) (λ p m. nothing_at_rest body (bind_place b other p) var r (place_kept b other var p (rest r) i k.0) k.1) in
          subst (Has (Results (Forall' other over shape (more_of-DefBody body end_of-DefBody)) b)) rs.2 (Has-map first_result (Has-choices rs.1))

      nothing_in_rest : {m : _} (row : Row_of-DefBody m) (b : List Place) (var : ℕ) (r : Value) → slice_get b var ≡ Some (rest r) → HaveVariable var count row →
          (rs : List (Option X)) × Picks (results_each (world n types) kept a indexes everything right row b) rs × (first_result rs ≡ None)
      nothing_in_rest end_of-DefBody b var r i k = ([], no_pick, refl)
      nothing_in_rest (more_of-DefBody part others) b var r i k =
          let rs = nothing_in_rest others b var r i k.1 in (None ∷ rs.0, one_more (nothing_at_rest part b var r i k.0) rs.1, rs.2)

-- a result, and a possible result: both Nothing, or values and what stands for them
abbrev pub Related : {X : Type 0} → (List Value → X → Type 0) → Walk → Option X → Type 0
Related R None None = Unit {0}
Related R (Some vs) (Some y) = R vs y
Related R _ _ = ⊥

module _ {X : Type 0} (R : List Value → X → Type 0) (every : List Value) (everything : X) (all_related : R every everything) where
  first_related : (w ws : Walk) (r rs : Option X) → Related R w r → Related R ws rs → Related R (walk.first_of w ws) (first_of r rs)
  first_related None ws None rs p q = q
  first_related (Some vs) ws (Some y) rs p q = p
  first_related None ws (Some y) rs p q = elim p [ ]
  first_related (Some vs) ws None rs p q = elim p [ ]

  taken_related : (c : Truth) (v w : Walk) (q r : Option X) → Related R v q → Related R w r → Related R (if_walk every c v w) (taken everything c q r)
  taken_related (Some true) v w q r h k = h
  taken_related (Some false) v w q r h k = k
  taken_related None None None None None h k = tt
  taken_related None (Some vs) w (Some y) r h k = all_related
  taken_related None None (Some ws) None (Some z) h k = all_related
  taken_related None None w (Some y) r h k = elim h [ ]
  taken_related None (Some vs) w None r h k = elim h [ ]
  taken_related None None None None (Some z) h k = elim k [ ]
  taken_related None None (Some ws) None None h k = elim k [ ]

  none_related : (r : Option X) (w : Walk) → w ≡ None → Related R w r → r ≡ None
  none_related r w e h = at r (subst (λ w. Related R w r) e h)
    where
      at : (r : Option X) → Related R None r → r ≡ None
      at None h = refl
      at (Some y) h = elim h [ ]

  -- of results that are Nothing or stand for one result the first stands for it
  one_related : (w : Walk) (rs : List (Option X)) → is_none w ≡ false → ((r : Option X) → Has rs r → (r ≡ None) ⊎ Related R w r) → (y : Option X) → Has rs y → Related R w y → Related R w (first_result rs)
  one_related w [] e h y k g = elim k [ ]
  one_related None (r ∷ rs) e h y k g = absurd (clash e)
    where
      clash : true ≡ false → ⊥
      clash e = cc
  one_related (Some vs) (None ∷ rs) e h y k g = one_related (Some vs) rs e (λ r l. h r (later l)) y (elim (Has-uncons k) [ inl i ↦ absurd (subst (Related R (Some vs)) i g) | inr l ↦ l ]) g
  one_related (Some vs) (Some z ∷ rs) e h y k g = elim (h (Some z) first) [ inl i ↦ absurd (cc) | inr l ↦ l ]

module _ (n : Numbered) (types : Name → AbsType) (spots : Placing) (facts : ArePlaced n (world n types) spots) (s : FlatState) (is_state : IsState n s)
    (kept : Kept) (a : AbsState) (picture : IsPicture n spots kept s a) (x : FlatElement) (classes : AreAtClasses n spots x.indexes)
    {X : Type 0} (R : List Value → X → Type 0) (every : List Value) (everything : X) (all_related : R every everything) (right : FlatExpr → List Place → X)
    (right_related : (e : FlatExpr) (b : List Value) → AreValues n b → R (flat_allowed_by n s every e b) (right e (map (placed spots) b))) where
  abbrev At : DefBody → List Place → List (Option X)
  At def b = results (world n types) kept a (map (placed spots) x.indexes) everything right def b

  abbrev Kept' : DefBody → List Value → Type 0
  Kept' def b = (r : Option X) × Has (At def (map (placed spots) b)) r × Related R (flat_result n s x every def b) r

  each_picks : (left : List FlatExpr) (b : List Value) → AreValues n b → Picks (map (λ e. may (world n types) kept a e (map (placed spots) b)) left) (map (placed_outcome spots) (map (λ e. flat_outcome n s e b) left))
  each_picks [] b h = no_pick
  each_picks (e ∷ left) b h = one_more (keeps n types spots facts s is_state kept a picture e b h) (each_picks left b h)

  assigned_related : (us : List Outcome) (value : FlatExpr) (b : List Value) → AreValues n b → ((u : Outcome) → Has us u → IsOutcome n u) →
      Related R (flat_assigned n s x every us value b) (assigned (world n types) kept a (map (placed spots) x.indexes) everything right (map (placed_outcome spots) us) value (map (placed spots) b))
  assigned_related us value b h k =
      rw (elsewhere_same n types spots facts s is_state us x.indexes k classes, none_same n types spots facts s is_state us)
      (at (list_any (λ (u, v). is_other u v) (zip us x.indexes)) (list_any is_none us))
    where
      at : (p q : Bool) → Related R (if p then None else if q then Some every else Some (flat_allowed_by n s every value b)) (if p then None else if q then Some everything else Some (right value (map (placed spots) b)))
      at true q = tt
      at false true = all_related
      at false false = right_related value b h

  -- a `forall`: at most one value gives a result, and lies at a class
  forall_keeps : (over : FlatSimple) (F : Value → Walk) (G : Place → List (Option X)) →
      ((v : Value) → Has (values_in n over) v → (r : Option X) × Has (G (placed spots v)) r × Related R (F v) r) →
      ((p : Place) → Has (rests_in (world n types) over) p → Has (G p) None) →
      ((v : Value) → Has (values_in n over) v → Has (rests_in (world n types) over) (placed spots v) → F v ≡ None) →
      ((u v : Value) → Has (values_in n over) u → Has (values_in n over) v → is_none (F u) ≡ false → is_none (F v) ≡ false → u ≡ v) →
      (r : Option X) × Has (map first_result (one_of_each (map G (places_in (world n types) over)))) r × Related R (walk.first (map F (values_in n over))) r
  forall_keeps over F G kept_at rest_none value_none one = elim (giver F (values_in n over)) [
    | inr none ↦
        let rs = none_list G (places_in (world n types) over) (λ p h. elim (Has-cases (named_in (world n types) over) (rests_in (world n types) over) h) [
          | inl c ↦ let v = (facts over).class_has_value p c in let r = kept_at v.0 v.1 in
              subst (λ z. Has (G z) None) v.2 (subst (Has (G (placed spots v.0))) (none_related R every everything all_related r.0 (F v.0) (none v.0 v.1) r.2) r.1)
          | inr l ↦ rest_none p l
        ]) in (
          None,
          subst (Has (map first_result (one_of_each (map G (places_in (world n types) over))))) rs.2 (Has-map first_result (Has-choices rs.1)),
          subst (λ w. Related R w None) (sym (first_nones F (values_in n over) none)) tt,
        )
    | inl found ↦ by_giver found.0 found.1 found.2 found.3
  ]
    where
      by_giver : (v : Value) → Has (values_in n over) v → is_none (F v) ≡ false → walk.first (map F (values_in n over)) ≡ F v →
          (r : Option X) × Has (map first_result (one_of_each (map G (places_in (world n types) over)))) r × Related R (walk.first (map F (values_in n over))) r
      by_giver v h g e =
          let chosen : Chosen G (λ p r. ((p ≡ placed spots v) → Related R (F v) r) × ((r ≡ None) ⊎ Related R (F v) r)) (places_in (world n types) over) =
          choose_each G (λ p r. ((p ≡ placed spots v) → Related R (F v) r) × ((r ≡ None) ⊎ Related R (F v) r)) (places_in (world n types) over)
          (λ p k. elim (Has-cases (named_in (world n types) over) (rests_in (world n types) over) k) [ inl c ↦ at_class p c | inr l ↦ at_rest p l ]) in
          let own = chosen.stands_for (placed spots v) ((facts over).is_somewhere v h) in (
            first_result chosen.list,
            Has-map first_result (Has-choices chosen.is_choice),
            subst (λ w. Related R w (first_result chosen.list)) (sym e)
                (one_related R every everything all_related (F v) chosen.list g (λ r k. (chosen.comes_from r k).2.1) own.0 own.1 (own.2.0 refl)),
          )
        where
          at_class : (p : Place) → Has (named_in (world n types) over) p → (r : Option X) × Has (G p) r × (((p ≡ placed spots v) → Related R (F v) r) × ((r ≡ None) ⊎ Related R (F v) r))
          at_class p c =
              let u = (facts over).class_has_value p c in
              let r = kept_at u.0 u.1 in (
                r.0,
                subst (λ z. Has (G z) r.0) u.2 r.1,
                elim (cases_Bool (is_none (F u.0))) [
                  | inl e ↦ (
                    λ i. let is_v : u.0 ≡ v = (facts over).class_has_one u.0 v u.1 h (subst (Has (named_in (world n types) over)) (sym u.2) c) (u.2 ∙ i) in
                        absurd (clash (subst (λ z. is_none (F z) ≡ true) is_v e) g),
                    inl (none_related R every everything all_related r.0 (F u.0) (is_none_is (F u.0) e) r.2),
                  )
                  | inr e ↦ let is_v : u.0 ≡ v = one u.0 v u.1 h e g in
                      (λ i. subst (λ z. Related R (F z) r.0) is_v r.2, inr (subst (λ z. Related R (F z) r.0) is_v r.2))
                ],
              )

          at_rest : (p : Place) → Has (rests_in (world n types) over) p → (r : Option X) × Has (G p) r × (((p ≡ placed spots v) → Related R (F v) r) × ((r ≡ None) ⊎ Related R (F v) r))
          at_rest p l = (
            None,
            rest_none p l,
            (λ i. absurd (clash (ap is_none (value_none v h (subst (Has (rests_in (world n types) over)) i l))) g), inl refl),
          )

  not_at_class : (over : FlatSimple) (v : Value) → Has (rests_in (world n types) over) (placed spots v) → (y : Value) → Has x.indexes y → same v y ≡ false
  not_at_class over v l y h = elim (cases_Bool (same v y)) [
    | inl e ↦ let r = rest_not_named (world n types) (simple_in n over) (placed spots v) l in
        let c = (class_named n spots x.indexes y classes h).1 in
        absurd (clash c (ap is_named (ap (placed spots) (sym (same-is v y e)) ∙ r.1)))
    | inr e ↦ e
  ]

  mutual
    pub walk_keeps : (def : DefBody) (b : List Value) → AreValues n b → IsBound (length b) (length x.indexes) def → OneGives n s x every def →
        (r : Option X) × Has (results (world n types) kept a (map (placed spots) x.indexes) everything right def (map (placed spots) b)) r × Related R (flat_result n s x every def b) r
    walk_keeps Nothing b h bound one = (None, first, tt)
    walk_keeps (Assign left value place offset) b h bound one = (
      _,
      Has-map (λ us. assigned (world n types) kept a (map (placed spots) x.indexes) everything right us value (map (placed spots) b)) (Has-choices (each_picks left b h)),
      assigned_related (map (λ e. flat_outcome n s e b) left) value b h (outcomes_of n types spots facts s is_state left b h),
    )
    walk_keeps (If' cond l (more_of-DefBody left end_of-DefBody) r' (more_of-DefBody right' end_of-DefBody)) b h bound one =
        let p = walk_keeps left b h bound.0 one.0 in
        let q = walk_keeps right' b h bound.1 one.1 in
        let c = flat_outcome n s cond b in (
          taken everything (truth c) p.0 q.0,
          Has-flat_map (λ u. pairs (λ x y. taken everything (seen u) x y ∷ []) (At left (map (placed spots) b)) (At right' (map (placed spots) b))) (keeps n types spots facts s is_state kept a picture cond b h)
              (Has-pairs (λ x y. taken everything (seen (placed_outcome spots c)) x y ∷ []) p.1 q.1
              (subst (λ t. Has (taken everything t p.0 q.0 ∷ []) (taken everything (truth c) p.0 q.0)) (sym (seen_placed spots c)) first)),
          taken_related R every everything all_related (truth c) (flat_result n s x every left b) (flat_result n s x every right' b) p.0 q.0 p.2 q.2,
        )
    walk_keeps (First' shape parts) b h bound one =
        let rs = walks_keep parts b h bound one in (first_result rs.0, Has-map first_result (Has-choices rs.1), rs.2)
    walk_keeps (Forall' var over shape (more_of-DefBody body end_of-DefBody)) b h bound one =
        let count = sym (length_map (placed spots) x.indexes) in
        forall_keeps over (λ v. flat_result n s x every body (bind b var v)) (λ p. At body (bind_place (map (placed spots) b) var p))
        (λ v k. let r = walk_keeps body (bind b var v) (bind_are n b var v h (of_type n over v k))
        (subst (λ m. IsBound m (length x.indexes) body) (sym (bound_length b var v (sym bound.0))) bound.2) one.1 in
        (r.0, subst (λ ps. Has (At body ps) r.0) (bind_placed spots b var v) r.1, r.2))
        (λ p l. let r = rest_not_named (world n types) (simple_in n over) p l in
        nothing_at_rest n types spots facts s is_state kept a (map (placed spots) x.indexes) (classes_named n spots x.indexes classes) (length x.indexes) count everything right body
        (bind_place (map (placed spots) b) var p) var r.0
        (place_bound (map (placed spots) b) var p (length_map (placed spots) b ∙ sym bound.0) ∙ ap Some r.1) bound.1)
        (λ v k l. nothing_at n types spots facts s is_state x every body (bind b var v) var v (value_bound b var v (sym bound.0)) (not_at_class over v l) bound.1)
        (λ u v hu hv. one.0 b h (sym bound.0) u v hu hv)

    walks_keep : {m : _} (row : Row_of-DefBody m) (b : List Value) → AreValues n b → AreBound (length b) (length x.indexes) row → OneOfEachGives n s x every row →
        (rs : List (Option X)) × Picks (results_each (world n types) kept a (map (placed spots) x.indexes) everything right row (map (placed spots) b)) rs × Related R (flat_results n s x every row b) (first_result rs)
    walks_keep end_of-DefBody b h bound one = ([], no_pick, tt)
    walks_keep (more_of-DefBody part others) b h bound one =
        let r = walk_keeps part b h bound.0 one.0 in
        let rs = walks_keep others b h bound.1 one.1 in
        (r.0 ∷ rs.0, one_more r.1 rs.1, first_related R every everything all_related (flat_result n s x every part b) (flat_results n s x every others b) r.0 (first_result rs.0) r.2 rs.2)
