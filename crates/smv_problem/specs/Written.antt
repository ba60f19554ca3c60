-- How a case is written as data. The names of set types and constants are not written: a class, a rest and a constant are written by their numbers, and their types
-- are known where they stand; two enumerations may share a constant, so the names of constants have numbers. Variables have no type where they stand, so what they are bound to is written with the number of its type, as a spot.
use Rattle.std.specs.Prelude.{ℕ, suc, List, [], ◌∷◌, map, flat_map, length, get_or, slice_get, unwrap_or, Option, Some, None, Bool}
use Rattle.std.specs.Str.{bytes_eq}
use Rattle.smv_core.specs.Values.{Name, number, constant, scalar, ordinal}
use Rattle.smv_core.specs.FlatMeaning.{Numbered}
use Rattle.smv_core.specs.declared.flat.SetInfo.{SetInfo}
use Rattle.smv_core.specs.declared.flat.Family.{Family}
use Rattle.smv_core.specs.declared.flat.Class.{Class}
use Rattle.smv_core.specs.declared.flat.Class.TheVariants as class
use Rattle.smv_core.specs.declared.flat.Element.{Element}
use Rattle.smv_core.specs.declared.abstract_type.AbsType.{AbsType}
use Rattle.law_obligations.specs.Places.{Place, named, rest, World, AbsOutcome}
use Rattle.law_obligations.specs.May.{AbsState}
use Rattle.law_obligations.specs.Obligations.{Demanded, defined, holds}
use Rattle.law_obligations.specs.Outlines.{place_of}
use Rattle.law_obligations.specs.Cones.{AbsElement}
use Rattle.law_designs.specs.FlatKinds.{FlatKind, enumeration, kind_of}
use Rattle.law_obligations.specs.Readings.{PosedCase}
use Rattle.smv_spots.specs.declared.spots.Spot.{Spot}
use Rattle.smv_spots.specs.declared.spots.Spot.TheVariants as spot
use Rattle.smv_problem.specs.declared.problem.AbsValue.{AbsValue}
use Rattle.smv_problem.specs.declared.problem.AbsValue.TheVariants as value
use Rattle.smv_problem.specs.declared.problem.AbsState.{AbsState as StateData}
use Rattle.smv_problem.specs.declared.problem.Demand.{Demand}
use Rattle.smv_problem.specs.declared.problem.Demand.TheVariants.{Defined, Holds}
use Rattle.smv_problem.specs.declared.problem.Problem.{Problem}

-- a place of a parameter or an index; a constant is never one
abbrev pub written_class : Place → Class
written_class (named (number k)) = class.Number k
written_class (named (scalar t k)) = class.Named k
written_class (named (ordinal t k)) = class.Named k
written_class (named (constant name)) = class.Number 0
written_class (rest (scalar t g)) = class.Rest g
written_class (rest (ordinal t g)) = class.Rest g
written_class (rest _) = class.Rest 0

-- the number of the set type of this name
abbrev pub set_number : Numbered → Name → ℕ
set_number n t = unwrap_or (place_of (λ (info : SetInfo). bytes_eq info.name t) n.sets) 0

-- the first constant of this name in these enumerations, the first of which has this number
abbrev pub constant_or : ℕ → Option ℕ → Spot → Spot
constant_or list (Some k) other = spot.Constant list k
constant_or list None other = other

abbrev pub constant_from : ℕ → List (List Name) → Name → Spot
constant_from list [] name = spot.Number 0
constant_from list (names ∷ enums) name = constant_or list (place_of (bytes_eq name) names) (constant_from (suc list) enums name)

-- a place of a variable, with the number of its type
abbrev pub written_spot : Numbered → Place → Spot
written_spot n (named (number k)) = spot.Number k
written_spot n (named (scalar t k)) = spot.Class (set_number n t) k
written_spot n (named (ordinal t k)) = spot.Class (set_number n t) k
written_spot n (named (constant name)) = constant_from 0 n.enums name
written_spot n (rest (scalar t g)) = spot.Rest (set_number n t) g
written_spot n (rest (ordinal t g)) = spot.Rest (set_number n t) g
written_spot n (rest _) = spot.Number 0

-- a constant by its place in its enumeration
abbrev pub written_constant : Numbered → FlatKind → Name → AbsValue
written_constant n (enumeration list) name = value.Constant (unwrap_or (place_of (bytes_eq name) (get_or n.enums list [])) 0)
written_constant n kind name = value.Undefined

-- a place of this kind
abbrev pub written_place : Numbered → FlatKind → Place → AbsValue
written_place n kind (named (number k)) = value.Number k
written_place n kind (named (constant name)) = written_constant n kind name
written_place n kind (named (scalar t k)) = value.Named k
written_place n kind (named (ordinal t k)) = value.Named k
written_place n kind (rest (scalar t g)) = value.Rest g
written_place n kind (rest (ordinal t g)) = value.Rest g
written_place n kind (rest _) = value.Undefined

abbrev pub written_outcome : Numbered → FlatKind → AbsOutcome → AbsValue
written_outcome n kind (Some p) = written_place n kind p
written_outcome n kind None = value.Undefined

abbrev pub written_element : AbsElement → Element
written_element x = record { family = x.family; indexes = map written_class x.indexes }

abbrev pub written_demand : Numbered → Demanded → Demand
written_demand n (defined def indexes) = Defined (record { family = def.family; indexes = map written_class indexes }) def.init def.next def.comb
written_demand n (holds body b) = Holds body (map (written_spot n) b)

-- the abstract form of a set type
abbrev pub written_type : World → SetInfo → AbsType
written_type w info = record { named = w.classes.sizes info.name; rest = w.rests info.name }

-- the kind of the values of an element
abbrev pub kind_in : Option Family → FlatKind
kind_in (Some f) = kind_of f.value
kind_in None = FlatKind.number

-- the number of a name among all constants: equal names have one number, and a name that is none of them has 0, as an empty one has
abbrev pub name_number : List (List Name) → Name → ℕ
name_number enums name = unwrap_or (place_of (bytes_eq name) ([] ∷ flat_map (λ names. names) enums)) 0

-- the numbers of the names of set types among themselves
abbrev pub set_numbers_of : List SetInfo → List ℕ
set_numbers_of sets = map (λ (info : SetInfo). name_number (map (λ (other : SetInfo). other.name) sets ∷ []) info.name) sets

-- which set types are ordsets
abbrev pub orders_of : List SetInfo → List Bool
orders_of sets = map (λ (info : SetInfo). info.ordered) sets

module _ (c : PosedCase) where
  -- the problem of a case
  unfoldable pub written : Problem
  written = record {
    elements = map written_element c.elements;
    families = c.problem.world.classes.families;
    lists = map length c.problem.world.classes.enums;
    names = map (map (name_number c.problem.world.classes.enums)) c.problem.world.classes.enums;
    set_names = set_numbers_of c.problem.world.classes.sets;
    ordered = orders_of c.problem.world.classes.sets;
    types = map (written_type c.problem.world) c.problem.world.classes.sets;
    now = map (written_demand c.problem.world.classes) c.problem.now;
    before = map (written_demand c.problem.world.classes) c.problem.before;
    target = written_demand c.problem.world.classes c.problem.target;
    guards = c.problem.guards;
    bindings = map (written_spot c.problem.world.classes) c.problem.params;
  }

  -- an abstract state of it
  abbrev pub written_state : AbsState → StateData
  written_state a = record {
    values = map (λ x. written_place c.problem.world.classes (kind_in (slice_get c.problem.world.classes.families x.family)) (a x.family x.indexes)) c.elements;
  }

  abbrev pub written_before : Option AbsState → Option StateData
  written_before None = None
  written_before (Some a) = Some (written_state a)
