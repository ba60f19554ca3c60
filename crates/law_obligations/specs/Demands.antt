-- Demands in a case: when the definition of an element or an assumed claim is met, and when a target is broken.
use Rattle.std.specs.Prelude.{List, [], zip, slice_get, Option, Some, None, Bool, true, false, not, ◌&&◌, ◌||◌, if◌then◌else◌}
use Rattle.std.specs.List.{list_any, list_all}
use Rattle.smv_core.specs.Assignments.{Index, fixed, fits}
use Rattle.smv_core.specs.Outcome.{is_true}
use Rattle.smv_core.specs.FlatMeaning.{indexes_assigned}
use Rattle.smv_core.specs.declared.flat.Def.{Def}
use Rattle.smv_core.specs.declared.flat.Family.{Family}
use Rattle.smv_core.specs.declared.flat.DefBody.{DefBody}
use Rattle.smv_core.specs.declared.flat.FlatExpr.{FlatExpr}
use Rattle.smv_core.specs.declared.flat.Simple.{Simple as FlatSimple}
use Rattle.law_obligations.specs.Places.{Place, named, rest, same_place, is_named, is_among, World, places_in, AbsOutcome, equal_places}
use Rattle.law_obligations.specs.May.{AbsState, Kept, seen, may}
use Rattle.law_obligations.specs.Right.{may_allow, must_allow, is_outside}
use Rattle.law_obligations.specs.Results.{results}

-- a constant index is a number, and lies where it is
abbrev pub fits_place : Index → Place → Bool
fits_place i (named v) = fits i v
fits_place (fixed u) (rest v) = false
fits_place _ (rest v) = true

-- some assignment concerns the element of these indexes
abbrev pub concerns_place : DefBody → List Place → Bool
concerns_place def indexes = list_any (λ is. list_all (λ (i, q). fits_place i q) (zip is indexes)) (indexes_assigned def)

-- a result, or what Nothing stands for
abbrev pub or_else : Option (Place → Bool) → (Place → Bool) → Place → Bool
or_else (Some result) nothing p = result p
or_else None nothing p = nothing p

-- an outcome may be the value of this place
abbrev pub may_equal : Place → AbsOutcome → Bool
may_equal i (Some p) = list_any is_true (equal_places p i)
may_equal i None = false

module _ (w : World) (kept : Kept) where
  -- for an element, by its indexes, whose definition this is and whose type has these places
  module _ (def : Def) (indexes : List Place) (every : List Place) where
    -- some possible result of a part, read in a state, may allow the place
    abbrev pub may_give : DefBody → AbsState → (Place → Bool) → Place → Bool
    may_give part a nothing p = list_any (λ r. or_else r nothing p) (results w kept a indexes (λ p. is_among every p) (may_allow w kept a every) part [])

    -- all possible results of a part allow the place for certain
    abbrev pub must_give : DefBody → AbsState → (Place → Bool) → Place → Bool
    must_give part a nothing p = list_all (λ r. or_else r nothing p) (results w kept a indexes (λ p. is_among every p) (must_allow w kept a every) part [])

    -- after a state Nothing stands for the value before, if some `next` concerns the element
    abbrev pub may_keep : AbsState → Place → Bool
    may_keep old p = if concerns_place def.next indexes then same_place (old def.family indexes) p else is_among every p

    -- which is certain only where it is no rest
    abbrev pub must_keep : AbsState → Place → Bool
    must_keep old p = if concerns_place def.next indexes then same_place (old def.family indexes) p && is_named p else is_among every p

    -- at time 0, where there is no state before, and at a later time
    abbrev pub may_step : Option AbsState → AbsState → Place → Bool
    may_step None now p = may_give def.init now (λ p. is_among every p) p
    may_step (Some old) now p = may_give def.next old (may_keep old) p

    abbrev pub must_step : Option AbsState → AbsState → Place → Bool
    must_step None now p = must_give def.init now (λ p. is_among every p) p
    must_step (Some old) now p = must_give def.next old (must_keep old) p

    -- the place is one that the definition may allow
    abbrev pub may_be : Option AbsState → AbsState → Place → Bool
    may_be before now p = if concerns_place def.comb indexes then may_give def.comb now (λ p. is_among every p) p else may_step before now p

    -- the place is one that the definition allows for certain
    abbrev pub must_be : Option AbsState → AbsState → Place → Bool
    must_be before now p = if concerns_place def.comb indexes then must_give def.comb now (λ p. is_among every p) p else must_step before now p

  -- the places of the values of a family
  abbrev pub places_of_family : Option Family → List Place
  places_of_family (Some f) = places_in w f.value
  places_of_family None = []

  -- the definition of an element is met, in the may sense
  abbrev pub is_defined : Def → List Place → Option AbsState → AbsState → Bool
  is_defined def indexes before now = may_be def indexes (places_of_family (slice_get w.classes.families def.family)) before now (now def.family indexes)

  -- a refinement map is broken at an element with an index at a rest, and where the element's value is not certain to be allowed
  abbrev pub is_broken_map : Def → List Place → Option AbsState → AbsState → Bool
  is_broken_map def indexes before now =
      not (list_all is_named indexes) || not (must_be def indexes (places_of_family (slice_get w.classes.families def.family)) before now (now def.family indexes))

  -- an assumed claim is met where its body may be 1, and a claim is broken where it may be anything else
  abbrev pub is_assumed : FlatExpr → List Place → AbsState → Bool
  is_assumed body b now = list_any (λ u. is_true (seen u)) (may w kept now body b)

  abbrev pub is_broken_claim : FlatExpr → List Place → AbsState → Bool
  is_broken_claim body b now = not (list_all (λ u. is_true (seen u)) (may w kept now body b))

  -- a guard `e = i` may hold: e may be outside the type of i, or may be i
  abbrev pub may_guard : FlatSimple → FlatExpr → List Place → Place → AbsState → Bool
  may_guard over e b i now = list_any (λ u. is_outside (places_in w over) u || may_equal i u) (may w kept now e b)
