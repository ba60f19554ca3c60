-- Places as spots: an index or a value of a type that is known, by that type's number.
use Rattle.std.specs.Prelude.{ℕ, List, [], ◌∷◌, Option, Some, None}
use Rattle.smv_core.specs.declared.flat.Simple.{Simple}
use Rattle.smv_core.specs.declared.flat.Simple.TheVariants.{Range, Enum, Set}
use Rattle.smv_core.specs.declared.flat.Class.{Class}
use Rattle.smv_core.specs.declared.flat.Class.TheVariants as class
use Rattle.smv_spots.specs.declared.spots.Spot.{Spot}
use Rattle.smv_spots.specs.declared.spots.Spot.TheVariants as spot
use Rattle.smv_problem.specs.declared.problem.AbsValue.{AbsValue}
use Rattle.smv_problem.specs.declared.problem.AbsValue.TheVariants as value

-- the number of an enumeration or a set type; a range has none
abbrev pub number_of : Simple → ℕ
number_of (Range low high) = 0
number_of (Enum list) = list
number_of (Set set) = set

-- an index of this type
abbrev pub class_spot : Simple → Class → Spot
class_spot over (class.Number k) = spot.Number k
class_spot over (class.Named k) = spot.Class (number_of over) k
class_spot over (class.Rest g) = spot.Rest (number_of over) g

-- indexes, each of its type
abbrev pub class_spots : List Simple → List Class → List Spot
class_spots (over ∷ types) (c ∷ classes) = class_spot over c ∷ class_spots types classes
class_spots _ _ = []

-- a value of this type, none where it is Undefined
abbrev pub value_spot : Simple → AbsValue → Option Spot
value_spot over (value.Number k) = Some (spot.Number k)
value_spot over (value.Constant k) = Some (spot.Constant (number_of over) k)
value_spot over (value.Named k) = Some (spot.Class (number_of over) k)
value_spot over (value.Rest g) = Some (spot.Rest (number_of over) g)
value_spot over value.Undefined = None
