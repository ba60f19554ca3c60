-- Bounds hold of each outcome that is a number.
use Rattle.std.proofs.Common.{◌≡◌, ◌+◌, ◌-◌, ◌≤◌, ℕ, List, [], ◌∷◌, map, Bool, true, false, cond, Option, Some, None, refl, sym, subst, arith}
use Rattle.std.specs.Prelude.{option_map, slice_get, zip}
use Rattle.smv_core.specs.Values.{Outcome, Value, number, add, all_defined, compare, conjunction, disjunction, equal, iff_of, implication, is_in, not_of, numbers_from, truth, value_in}
use Rattle.smv_core.specs.FlatMeaning.{FlatBindings, FlatState, Numbered, bind, flat_element_at, flat_listed, flat_outcome, flat_outcomes, flat_sum, values_in}
use Rattle.smv_core.specs.Rows.{one_flat_expr}
use Rattle.smv_core.specs.declared.flat.Family.{Family}
use Rattle.smv_core.specs.declared.flat.Simple.{Simple}
use Rattle.smv_core.specs.declared.flat.Simple.TheVariants.{Range, Enum, Set}
use Rattle.smv_core.specs.declared.flat.FlatExpr.{FlatExpr, Number, Read', Var, Loop, Constant, Not', And', Or', Implies', Iff', Compare', Within', Sum', Modulo', Choose', All', Any', List', Each', Row_of-FlatSigned, end_of-FlatSigned, more_of-FlatSigned, items-the_row-FlatExpr}
use Rattle.law_obligations.specs.Sets.{Has}
use Rattle.law_obligations.specs.Pictures.{AreOfTypes, IsState}
use Rattle.law_obligations.proofs.Members.{Has-from_map}
use Rattle.law_obligations.proofs.Same.{Has-is_in}
use Rattle.law_obligations.proofs.Spots.{numbers-Has}
use Rattle.smv_look_bounds.specs.declared.numbers.Bounds.{Bounds}
use Rattle.smv_look_bounds.specs.Narrowing.{Given, Target, element, variable, index_in, narrowed}
use Rattle.smv_look_bounds.specs.Bounds.{added as added_bounds, bounds, bounds_sum, numbers_of, value_type}
use Rattle.law_bounds.specs.BoundsHold.{AreBound, AreSo, BoundsHold, IsWithin}
use Rattle.law_bounds.proofs.NumberLaws.{Holds, MayHold, added-holds, bit-holds, chosen-holds, remainder-holds}
use Rattle.law_bounds.proofs.NarrowLaws.{Refers, element-refers, narrowed-holds, variable-refers}

-- ---- types

in-range : (low high k : ℕ) → low ≤ k → k + 1 ≤ low + (high + 1 - low) → k ≤ high
in-range low high k a c = omega arith

range-holds : (low high : ℕ) (v : Value) → Has (map number (numbers_from low (high + 1 - low))) v → Holds (record { low = low; high = high }) (Some v)
range-holds low high v has =
    let r = Has-from_map number (numbers_from low (high + 1 - low)) has in
    let k : ℕ = r.0 in
    let inside = numbers-Has low (high + 1 - low) k r.1 in
    subst (λ (w : Value). Holds (record { low = low; high = high }) (Some w)) (sym r.2) (inside.0, in-range low high k inside.0 (let lt = inside.1 in omega arith))

module _ (n : Numbered) where
  type-holds : (over : Simple) (v : Value) → Has (values_in n over) v → MayHold (numbers_of (Some over)) (Some v)
  type-holds (Range low high) v has = range-holds low high v has
  type-holds (Enum list) v has = tt
  type-holds (Set set) v has = tt

  -- the values of indexes, where each is of its type
  abbrev values_at : List Simple → List Outcome → Option (List Value)
  values_at over us = all_defined (map (λ (t, u). value_in (values_in n t) u) (zip over us))

  abbrev OfTypes : List Simple → Option (List Value) → Type 0
  OfTypes over None = Unit {0}
  OfTypes over (Some vs) = AreOfTypes n over vs

  one-more : (t : Simple) (over : List Simple) (v : Value) → Has (values_in n t) v → (o : Option (List Value)) → OfTypes over o → OfTypes (t ∷ over) (option_map (λ vs. v ∷ vs) o)
  one-more t over v has None k = tt
  one-more t over v has (Some vs) k = (has, k)

  indexes-of-types : (over : List Simple) (us : List Outcome) → OfTypes over (values_at over us)
  indexes-of-types [] us = tt
  indexes-of-types (t ∷ over) [] = tt
  indexes-of-types (t ∷ over) (None ∷ us) = tt
  indexes-of-types (t ∷ over) (Some v ∷ us) = at (indexes-of-types over us) (is_in (values_in n t) v) refl
    where
      at : OfTypes over (values_at over us) → (p : Bool) → is_in (values_in n t) v ≡ p → OfTypes (t ∷ over) (all_defined (cond p (Some v) None ∷ map (λ (t, u). value_in (values_in n t) u) (zip over us)))
      at more true e = one-more t over v (Has-is_in (values_in n t) v e) (values_at over us) more
      at more false e = tt

  module _ (s : FlatState) (is_state : IsState n s) where
    value-holds : (family : ℕ) (f : Family) → slice_get n.families family ≡ Some f → (o : Option (List Value)) → OfTypes f.over o → MayHold (numbers_of (Some f.value)) (option_map (s family) o)
    value-holds family f is None are = nothing-said (numbers_of (Some f.value))
      where
        nothing-said : (o : Option Bounds) → MayHold o None
        nothing-said None = tt
        nothing-said (Some w) = tt
    value-holds family f is (Some vs) are = type-holds f.value (s family vs) (is_state family f is vs are)

    element-holds : (family : ℕ) (o : Option Family) → slice_get n.families family ≡ o → (us : List Outcome) → MayHold (numbers_of (value_type o)) (flat_element_at n s family o us)
    element-holds family None is us = tt
    element-holds family (Some f) is us = value-holds family f is (values_at f.over us) (indexes-of-types f.over us)

    module _ (vars : List Simple) (b : FlatBindings) (are_bound : AreBound n vars b) (givens : List Given) (are_so : AreSo n s b givens) where
      variable-holds : (var : ℕ) (o : Option Simple) (u : Outcome) → slice_get vars var ≡ o → slice_get b var ≡ u → MayHold (numbers_of o) u
      variable-holds var None u e f = tt
      variable-holds var (Some over) None e f = nothing-said (numbers_of (Some over))
        where
          nothing-said : (o : Option Bounds) → MayHold o None
          nothing-said None = tt
          nothing-said (Some w) = tt
      variable-holds var (Some over) (Some v) e f = type-holds over v (are_bound var over v e f)

      -- narrowed by the conditions around
      read-holds : (t : Target) (u : Outcome) → Refers n s b t u → (o : Option Bounds) → MayHold o u → MayHold (option_map (narrowed givens t) o) u
      read-holds t u refers None h = tt
      read-holds t u refers (Some w) h = narrowed-holds n s b t u refers givens w are_so h

      mutual
        unfolding bounds

        pub holds : (e : FlatExpr) → MayHold (bounds n.families vars givens e) (flat_outcome n s e b)
        holds (Number value at) = (omega arith, omega arith)
        holds (Loop value at) = (omega arith, omega arith)
        holds (Read' family shape indexes at) =
            read-holds (element family (map index_in (items-the_row-FlatExpr _ indexes))) (flat_element_at n s family (slice_get n.families family) (flat_outcomes n s indexes b)) (element-refers n s b family indexes)
            (numbers_of (value_type (slice_get n.families family))) (element-holds family (slice_get n.families family) refl (flat_outcomes n s indexes b))
        holds (Var var at) =
            read-holds (variable var) (slice_get b var) (variable-refers n s b var) (numbers_of (slice_get vars var)) (variable-holds var (slice_get vars var) (slice_get b var) refl refl)
        holds (Sum' f (one_flat_expr head) shape more) = sum-holds more (bounds n.families vars givens head) (flat_outcome n s head b) (holds head)
        holds (Modulo' shape (one_flat_expr e) by at) = remainder-holds by (bounds n.families vars givens e) (flat_outcome n s e b) (holds e)
        holds (Choose' c (one_flat_expr cond) l (one_flat_expr left) r (one_flat_expr right)) =
            chosen-holds (truth (flat_outcome n s cond b)) (bounds n.families vars givens left) (bounds n.families vars givens right) (flat_outcome n s left b) (flat_outcome n s right b) (holds left) (holds right)
        holds (Constant list value at) = tt
        holds (List' shape members at) = tt
        holds (Each' var over cond at) = tt
        holds (Not' shape (one_flat_expr e) at) = bit-holds (not_of (truth (flat_outcome n s e b)))
        holds (And' shape parts) = bit-holds (conjunction (map truth (flat_outcomes n s parts b)))
        holds (Or' shape parts) = bit-holds (disjunction (map truth (flat_outcomes n s parts b)))
        holds (Implies' shape parts) = bit-holds (implication (map truth (flat_outcomes n s parts b)))
        holds (Iff' l (one_flat_expr left) r (one_flat_expr right)) = bit-holds (iff_of (truth (flat_outcome n s left b)) (truth (flat_outcome n s right b)))
        holds (Compare' op l (one_flat_expr left) r (one_flat_expr right)) = bit-holds (compare op (flat_outcome n s left b) (flat_outcome n s right b))
        holds (Within' l (one_flat_expr left) r (one_flat_expr set)) = bit-holds (disjunction (map (equal (flat_outcome n s left b)) (flat_listed n s set b)))
        holds (All' shape (one_flat_expr body) var over at) = bit-holds (conjunction (map (λ v. truth (flat_outcome n s body (bind b var v))) (values_in n over)))
        holds (Any' shape (one_flat_expr body) var over at) = bit-holds (disjunction (map (λ v. truth (flat_outcome n s body (bind b var v))) (values_in n over)))

        sum-holds : {m : _} (more : Row_of-FlatSigned m) (o : Option Bounds) (u : Outcome) → MayHold o u → MayHold (bounds_sum n.families vars givens o more) (flat_sum n s more u b)
        sum-holds end_of-FlatSigned o u h = h
        sum-holds (more_of-FlatSigned minus e rest) o u h =
            sum-holds rest (added_bounds minus o (bounds n.families vars givens e)) (add minus u (flat_outcome n s e b)) (added-holds minus o (bounds n.families vars givens e) u (flat_outcome n s e b) h (holds e))

-- what holds of bounds and of an outcome, where both are known
known : (o : Option Bounds) (u : Outcome) (within : Bounds) (k : ℕ) → o ≡ Some within → u ≡ Some (number k) → MayHold o u → IsWithin within k
known o u within k e f h = subst (λ (v : Outcome). MayHold (Some within) v) f (subst (λ (p : Option Bounds). MayHold p u) e h)

pub bounds_hold : BoundsHold
bounds_hold n s vars b givens is_state are_bound are_so e within k is out =
    known (bounds n.families vars givens e) (flat_outcome n s e b) within k is out (holds n s is_state vars b are_bound givens are_so e)
