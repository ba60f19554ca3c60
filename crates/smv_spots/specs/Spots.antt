-- Spots as places: values of a case by the numbers of their types.
use Rattle.std.specs.Prelude.{◌≡◌, ℕ, ◌+◌, List, [], ◌∷◌, get_or, slice_get, Option, Some, None, option_map, Bool, true, false, ◌&&◌, bytes_eq, if◌then◌else◌}
use Rattle.smv_core.specs.Values.{Name, Value, number, constant, scalar, ordinal}
use Rattle.smv_core.specs.FlatMeaning.{Numbered}
use Rattle.smv_core.specs.declared.flat.SetInfo.{SetInfo}
use Rattle.smv_core.specs.declared.flat.Design.{Design}
use Rattle.law_obligations.specs.Places.{Place, named, rest, AbsOutcome, World}
use Rattle.smv_core.specs.declared.abstract_type.Rest.{Rest as Beside}
use Rattle.smv_core.specs.declared.abstract_type.Rest.TheVariants as beside
use Rattle.smv_core.specs.declared.abstract_type.AbsType.{AbsType}
use Rattle.smv_spots.specs.declared.spots.Spot.{Spot}
use Rattle.smv_spots.specs.declared.spots.Spot.TheVariants.{Number, Constant, Class, Rest}
use Rattle.smv_spots.specs.declared.places.Sort.{Sort}
use Rattle.smv_spots.specs.declared.places.Sort.TheVariants as sort

-- the name of a set type, and whether it is an ordset; one that is not there is a scalarset without a name
abbrev pub name_of : Option SetInfo → Name
name_of (Some info) = info.name
name_of None = []

abbrev pub is_ordset : Option SetInfo → Bool
is_ordset (Some info) = info.ordered
is_ordset None = false

-- a value of a set type by its number
abbrev pub of_set : Option SetInfo → ℕ → Value
of_set (Some info) k = if info.ordered then ordinal info.name k else scalar info.name k
of_set None k = scalar [] k

-- the same answer twice
abbrev pub both_or_none : Bool → Bool → Bool
both_or_none true b = b
both_or_none false true = false
both_or_none false false = true

-- two set types of the same sort and name
abbrev pub is_same_set : Option SetInfo → Option SetInfo → Bool
is_same_set i j = both_or_none (is_ordset i) (is_ordset j) && bytes_eq (name_of i) (name_of j)

-- where a value lies, by the set types and enumerations of its design
abbrev pub place_of : List SetInfo → List (List Name) → Spot → Place
place_of sets enums (Number k) = named (number k)
place_of sets enums (Constant list k) = named (constant (get_or (get_or enums list []) k []))
place_of sets enums (Class set k) = named (of_set (slice_get sets set) k)
place_of sets enums (Rest set k) = rest (of_set (slice_get sets set) k)

abbrev pub place_in : Numbered → Spot → Place
place_in n p = place_of n.sets n.enums p

abbrev pub place_by : Design → Spot → Place
place_by design p = place_of design.sets design.enums p

-- an outcome, none where it is Undefined
abbrev pub outcome_in : Numbered → Option Spot → AbsOutcome
outcome_in n o = option_map (place_in n) o

-- a spot by its last number
abbrev pub spot_of : Sort → ℕ → Spot
spot_of sort.Number k = Number k
spot_of (sort.Constant list) k = Constant list k
spot_of (sort.Class set) k = Class set k
spot_of (sort.Rest set) k = Rest set k

-- how many classes and how many rests a set type has; one that is not there has none
abbrev pub classes_of : Option AbsType → ℕ
classes_of (Some t) = t.named
classes_of None = 0

abbrev pub count_beside : Beside → ℕ → ℕ
count_beside beside.None classes = 0
count_beside beside.One classes = 1
count_beside beside.Gaps classes = classes + 1

abbrev pub rests_of : Option AbsType → ℕ
rests_of (Some t) = count_beside t.rest t.named
rests_of None = 0

-- the set types have these abstract forms
abbrev pub AreTypes : World → List SetInfo → List AbsType → Type 0
AreTypes w [] [] = Unit {0}
AreTypes w (info ∷ infos) (t ∷ ts) = (w.classes.sizes info.name ≡ t.named) × (w.rests info.name ≡ t.rest) × AreTypes w infos ts
AreTypes w _ _ = ⊥

-- a design as a case sees it, by the abstract forms of its set types
pub record IsWorld (design : Design) (types : List AbsType) (w : World) : Type 0 where
  pub sets : w.classes.sets ≡ design.sets
  pub enums : w.classes.enums ≡ design.enums
  pub families : w.classes.families ≡ design.families
  pub forms : AreTypes w design.sets types
