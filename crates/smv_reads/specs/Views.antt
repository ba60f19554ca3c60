-- A design as a case sees it, by the abstract forms of its set types; where variables and indexes are; and which classes an index may be.
use Rattle.std.specs.Prelude.{◌≤◌, ◌+◌, ◌-◌, ℕ, List, [], ◌∷◌, ◌++◌, map, take, slice_get, Some, None, Bool, true, false}
use Rattle.smv_core.specs.Values.{numbers_from}
use Rattle.smv_core.specs.Assignments.{Index, fixed, bare, computed}
use Rattle.smv_core.specs.declared.flat.Design.{Design}
use Rattle.smv_core.specs.declared.flat.Simple.{Simple}
use Rattle.smv_core.specs.declared.flat.Simple.TheVariants.{Range, Enum, Set}
use Rattle.smv_core.specs.declared.flat.Class.{Class}
use Rattle.smv_core.specs.declared.flat.Class.TheVariants as class
use Rattle.smv_core.specs.declared.abstract_type.AbsType.{AbsType}
use Rattle.smv_core.specs.declared.abstract_type.Rest.TheVariants as beside
use Rattle.law_obligations.specs.Sets.{Has}
use Rattle.law_obligations.specs.Places.{Place, named, same_place, World, world}
use Rattle.law_obligations.specs.Covers.{by_name}
use Rattle.law_obligations.specs.Outlines.{names_of}
use Rattle.law_obligations.specs.Reads.{is_bound_to}
use Rattle.law_problems.specs.Order.{AreIndexed}
use Rattle.smv_spots.specs.declared.spots.Spot.{Spot}
use Rattle.smv_spots.specs.declared.spots.Spot.TheVariants as spot
use Rattle.smv_spots.specs.Spots.{place_by, classes_of, IsWorld}
use Rattle.smv_reads.specs.declared.bindings.View.{View}

-- the design in a case where its set types have these abstract forms
abbrev pub world_by : Design → List AbsType → World
world_by d types = world (names_of d) (by_name (record { named = 0; rest = beside.None }) d.sets types)

abbrev pub world_of : View → World
world_of v = world_by v.design.now v.types.now

-- the forms are those of the design's set types, with at most 256 classes each, and families have ranges and set types as indexes
pub record IsView (v : View) : Type 0 where
  pub is_world : IsWorld v.design.now v.types.now (world_of v)
  pub are_indexed : AreIndexed (world_of v)
  pub few : (t : AbsType) → Has v.types.now t → t.named ≤ 256

-- where spots lie
abbrev pub place_in : View → Spot → Place
place_in v p = place_by v.design.now p

abbrev pub places : View → List Spot → List Place
places v spots = map (place_in v) spots

-- the variables that are bound, with one more: those from its number on are no longer bound
abbrev pub bind_spot : List Spot → ℕ → Spot → List Spot
bind_spot b var p = take var b ++ p ∷ []

-- the set type of an index
abbrev pub set_of : Simple → ℕ
set_of (Set set) = set
set_of _ = 0

-- a number, a class or a rest of a type
abbrev pub spot_in : Simple → Class → Spot
spot_in over (class.Number k) = spot.Number k
spot_in over (class.Named k) = spot.Class (set_of over) k
spot_in over (class.Rest g) = spot.Rest (set_of over) g

-- the numbers of a range and the classes of a set type, by the abstract forms of set types
abbrev pub classes_in : List AbsType → Simple → List Class
classes_in types (Range low high) = map class.Number (numbers_from low (high + 1 - low))
classes_in types (Enum list) = []
classes_in types (Set set) = map class.Named (numbers_from 0 (classes_of (slice_get types set)))

-- an index of a reference may lie at this place
abbrev pub may_lie : List Place → Index → Place → Bool
may_lie b (fixed None) p = false
may_lie b (fixed (Some v)) p = same_place (named v) p
may_lie b (bare var) p = is_bound_to (slice_get b var) p
may_lie b computed p = true
