-- The element whose value is asked about, and when it has which value.
use Rattle.std.specs.Prelude.{◌≡◌, ℕ, List, [], ◌∷◌, map, Option, Some, None, Bool, true, false, not, if◌then◌else◌}
use Rattle.smv_core.specs.FlatMeaning.{Numbered}
use Rattle.law_obligations.specs.Places.{Place, named, rest, same_place, is_among, AbsOutcome}
use Rattle.law_obligations.specs.Right.{gives, gives_surely, is_outside}
use Rattle.smv_spots.specs.Spots.{place_in}
use Rattle.smv_problem.specs.declared.problem.Problem.{Problem}
use Rattle.smv_cells.specs.declared.cells.Cell.{Cell}
use Rattle.smv_cells.specs.Seen.{View, IsSeen}
use Rattle.smv_targets.specs.declared.targets.At.{At}
use Rattle.smv_targets.specs.declared.targets.Target.{Target}
use Rattle.smv_targets.specs.declared.targets.Sense.{Sense}
use Rattle.smv_targets.specs.declared.targets.Sense.TheVariants.{May, Surely, Exactly, Inside, Outside}

-- an element in a view: the places of its indexes and of its type, and its value at each assignment
pub record Aim : Type 0 where
  pub view : View
  pub indexes : List Place
  pub every : List Place
  pub value : (ℕ → Bool) → Place

-- the condition under which the value is at this place, where the type has it
abbrev pub at_place : {C : Type 0} → Numbered → List (At C) → Place → Option C
at_place n [] p = None
at_place n (t ∷ ts) p = if same_place p (place_in n t.spot) then Some t.when else at_place n ts p

-- what an outcome at a place of the type gives, and one outside it
abbrev pub within : {C : Type 0} → Target C → Sense → Place → C → C
within t May p c = c
within t Surely (named v) c = c
within t Surely (rest v) c = t.never
within t Exactly p c = c
within t Inside p c = t.always
within t Outside p c = t.never

abbrev pub beyond : {C : Type 0} → Target C → Sense → C
beyond t May = t.always
beyond t Surely = t.always
beyond t Exactly = t.never
beyond t Inside = t.never
beyond t Outside = t.always

abbrev pub within_or_beyond : {C : Type 0} → Target C → Sense → Place → Option C → C
within_or_beyond t sense p None = beyond t sense
within_or_beyond t sense p (Some c) = within t sense p c

-- the condition under which an outcome gives the value
unfoldable pub given_at : {C : Type 0} → Numbered → Target C → Sense → AbsOutcome → C
given_at n t sense None = beyond t sense
given_at n t sense (Some p) = within_or_beyond t sense p (at_place n t.table p)

-- an outcome is at this place
abbrev pub exactly : AbsOutcome → Place → Bool
exactly None p = false
exactly (Some q) p = same_place q p

-- what is asked of an outcome: whether it may give the place, gives it for certain, is it, is in the type, or is outside it
abbrev pub meant : Sense → List Place → AbsOutcome → Place → Bool
meant May every u p = gives every u p
meant Surely every u p = gives_surely every u p
meant Exactly every u p = exactly u p
meant Inside every u p = not (is_outside every u)
meant Outside every u p = is_outside every u

-- the conditions of a table, and of a target
abbrev pub conditions_at : {C : Type 0} → List (At C) → List C
conditions_at ts = map (λ (x : At _). x.when) ts

abbrev pub conditions_of : {C : Type 0} → Target C → List C
conditions_of t = t.always ∷ t.never ∷ conditions_at t.table

abbrev pub AreAtMade : {C : Type 0} → (C → Type 0) → List (At C) → Type 0
AreAtMade IsMade [] = Unit {0}
AreAtMade IsMade (t ∷ ts) = IsMade t.when × AreAtMade IsMade ts

pub record IsTargetMade {C : Type 0} (IsMade : C → Type 0) (t : Target C) : Type 0 where
  pub table : AreAtMade IsMade t.table
  pub always : IsMade t.always
  pub never : IsMade t.never

-- each place of the type, with the condition under which the value is there; the value is always of the type
pub record IsTarget {S C : Type 0} (holds : S → C → (ℕ → Bool) → Bool) (s : S) (t : Target C) (z : Aim) : Type 0 where
  pub indexes : map (place_in z.view.world.classes) t.indexes ≡ z.indexes
  pub every : map (λ (x : At C). place_in z.view.world.classes x.spot) t.table ≡ z.every
  pub held : (p : Place) (c : C) → at_place z.view.world.classes t.table p ≡ Some c → (a : ℕ → Bool) → holds s c a ≡ same_place p (z.value a)
  pub always : (a : ℕ → Bool) → holds s t.always a ≡ true
  pub never : (a : ℕ → Bool) → holds s t.never a ≡ false
  pub of_type : (a : ℕ → Bool) → is_among z.every (z.value a) ≡ true

-- the view is seen through the cells, and the target is the element
pub record IsAim {S C : Type 0} (holds : S → C → (ℕ → Bool) → Bool) (s : S) (problem : Problem) (cells : List (Cell C)) (t : Target C) (z : Aim) : Type 0 where
  pub seen : IsSeen holds s problem cells z.view
  pub target : IsTarget holds s t z

-- a condition, made later, holds where what is asked of the element does
unfoldable pub IsSo : {S C : Type 0} → (S → C → (ℕ → Bool) → Bool) → S → S → Problem → List (Cell C) → Target C → (Aim → (ℕ → Bool) → Bool) → C → Type 0
IsSo holds start s problem cells t is r = (z : Aim) → IsAim holds start problem cells t z → (a : ℕ → Bool) → holds s r a ≡ is z a
