-- The values that the definition of an element allows it for certain.
use Rattle.std.specs.Prelude.{◌≡◌, List, map, slice_get, Option, Some, Bool, true}
use Rattle.std.specs.List.{filter}
use Rattle.smv_core.specs.declared.flat.Def.{Def}
use Rattle.smv_core.specs.declared.flat.Element.{Element}
use Rattle.smv_core.specs.declared.flat.DefBody.{DefBody}
use Rattle.law_obligations.specs.Places.{Place, World, is_among, same_place}
use Rattle.law_obligations.specs.May.{AbsState}
use Rattle.law_obligations.specs.Demands.{must_be, places_of_family}
use Rattle.law_obligations.specs.Obligations.{AbstractProblem as Case, defined}
use Rattle.law_obligations.specs.Soundness.{over_of}
use Rattle.smv_spots.specs.declared.spots.Spot.{Spot}
use Rattle.smv_spots.specs.Spots.{place_in}
use Rattle.smv_problem.specs.declared.problem.AbsValue.{AbsValue}
use Rattle.smv_problem.specs.declared.problem.Problem.{Problem}
use Rattle.smv_problem.specs.Written.{written_place, kind_in}
use Rattle.smv_problem_spots.specs.Worlds.{IsWorldOf}
use Rattle.smv_typed_spots.specs.TypedSpots.{class_spots}
use Rattle.smv_conditions.specs.declared.stores.Plain.{Plain}
use Rattle.smv_conditions.specs.declared.offers.Offer.{Offer}
use Rattle.smv_cells.specs.declared.cells.Cell.{Cell}
use Rattle.smv_cells.specs.Seen.{View}
use Rattle.smv_targets.specs.declared.targets.At.{At}
use Rattle.smv_targets.specs.declared.targets.Target.{Target}
use Rattle.smv_targets.specs.Targets.{IsTarget}
use Rattle.smv_eval.specs.States.{plainly}
use Rattle.smv_walks.specs.Demands.{IsDemand}
use Rattle.smv_walks.specs.Given.{aim_at, IsWritten}
use Rattle.smv_eval.specs.Held.{AreReadBy}

-- every place of an element's type
abbrev pub every_of : Case → Def → List Place
every_of p def = places_of_family p.world p.kept (slice_get p.world.classes.families def.family)

-- its definition allows it this place for certain
abbrev pub is_sure : Case → Def → List Place → Option AbsState → AbsState → Place → Bool
is_sure p def indexes before now = must_be p.world p.kept def indexes (every_of p def) before now

-- the places that it allows so, and the same as values of a state are written
abbrev pub sure_places : Case → Def → List Place → Option AbsState → AbsState → List Place
sure_places p def indexes before now = filter (is_sure p def indexes before now) (every_of p def)

abbrev pub sure_values : Case → Def → List Place → Option AbsState → AbsState → List AbsValue
sure_values p def indexes before now = map (written_place p.world.classes (kind_in (slice_get p.world.classes.families def.family))) (sure_places p def indexes before now)

-- ---- how they are found

-- a place of a type, by whether it is this one
abbrev pub at_value : World → Spot → Spot → At Bool
at_value w value spot = record { spot = spot; when = same_place (place_in w.classes spot) (place_in w.classes value) }

-- the target of an element that would have this value, whatever its own is, in each view of the problem where its type has the value
abbrev pub IsTargetAt : Problem → Element → Spot → Target Bool → Type 0
IsTargetAt problem element value t = (v : View) (indexes : List Place) → IsWorldOf problem v.world → map (place_in v.world.classes) (class_spots (over_of (slice_get problem.families element.family)) element.indexes) ≡ indexes →
    is_among (places_of_family v.world v.kept (slice_get v.world.classes.families element.family)) (place_in v.world.classes value) ≡ true → (s : Plain) → IsTarget plainly s t (aim_at v element.family indexes (λ a. place_in v.world.classes value))

module _ (problem : Problem) (old : Option (List (Cell Bool))) (cells : List (Cell Bool)) (element : Element) (init next comb : DefBody) where
  -- what is said of the element of each case that is written so, in the states that these cells read
  abbrev pub OfElement : (Case → Def → List Place → Option AbsState → AbsState → Type 0) → Type 0
  OfElement says = (p : Case) (before : Option AbsState) (now : AbsState) → AreReadBy problem old cells p before now → (def : Def) (indexes : List Place) → IsDemand p (defined def indexes) → IsWritten element init next comb p def indexes (λ a. now) → says p def indexes before now

-- a place of a type, by whether it is sure
abbrev pub sure_offer : Case → Def → List Place → Option AbsState → AbsState → Spot → Offer Bool
sure_offer p def indexes before now spot = record { outcome = Some spot; when = is_sure p def indexes before now (place_in p.world.classes spot) }
