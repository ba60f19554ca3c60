-- What the list of cases has to give: for all values of the parameters a case, and a placing under which each value stands at its class.
use Rattle.std.specs.Prelude.{◌≡◌, ◌≢◌, ℕ, List, [], ◌∷◌, map, Some, None, Bool, true, false, if◌then◌else◌}
use Rattle.std.specs.Str.{bytes_eq}
use Rattle.smv_core.specs.Values.{Name, Value, number, scalar, ordinal, Simple, scalarset, ordset, Sizes}
use Rattle.smv_core.specs.FlatMeaning.{Numbered, simple_in}
use Rattle.smv_core.specs.declared.flat.Simple.{Simple as FlatSimple}
use Rattle.smv_core.specs.declared.flat.Simple.TheVariants.{Enum}
use Rattle.smv_core.specs.declared.flat.SetInfo.{SetInfo}
use Rattle.smv_core.specs.declared.flat.Class.{Class}
use Rattle.smv_core.specs.declared.flat.Class.TheVariants.{Number, Named, Rest}
use Rattle.smv_core.specs.declared.abstract_type.Rest.TheVariants as beside
use Rattle.smv_core.specs.declared.abstract_type.AbsType.{AbsType}
use Rattle.law_obligations.specs.Sets.{Has}
use Rattle.law_obligations.specs.Places.{Place, named, rest, world}
use Rattle.law_obligations.specs.Pictures.{Placing, placed, ArePlaced}
use Rattle.law_obligations.specs.Cases.{Treatment, whole, reduced, ordered, Parameter, numbered, type_in, cases}

-- the value of a set type by its number
abbrev pub value_at : Simple → ℕ → Value
value_at (scalarset t) k = scalar t k
value_at (ordset t) k = ordinal t k
value_at _ k = number k

-- where a value of a type is that has this class
abbrev pub place_at : Simple → Class → Place
place_at t (Number k) = named (number k)
place_at t (Named c) = named (value_at t c)
place_at t (Rest g) = rest (value_at t g)

-- where the parameters stand in a case
abbrev pub places_at : Numbered → List Parameter → List Class → List Place
places_at n (p ∷ params) (c ∷ classes) = place_at (simple_in n p.over) c ∷ places_at n params classes
places_at n _ _ = []

-- what a list has for the set type of this name
abbrev pub by_name : {X : Type 0} → X → List SetInfo → List X → Name → X
by_name missing (info ∷ sets) (x ∷ xs) name = if bytes_eq info.name name then x else by_name missing sets xs name
by_name missing _ _ name = missing

-- the abstract type of each set type in a case, by its name
abbrev pub types_at : List SetInfo → List Treatment → List Parameter → List Class → Name → AbsType
types_at sets treatments params classes = by_name (record { named = 0; rest = beside.None }) sets (map (λ (set, t). type_in t set params classes) (numbered 0 treatments))

-- no two of these set types have one name
abbrev pub AreApart : List SetInfo → Type 0
AreApart [] = Unit {0}
AreApart (info ∷ sets) = ((other : SetInfo) → Has sets other → info.name ≢ other.name) × AreApart sets

-- how a set type of this size may be treated: a number of values that the treatment names is its size
abbrev pub IsTreated : Bool → ℕ → Treatment → Type 0
IsTreated false size (whole n) = n ≡ size
IsTreated false size (reduced (Some n)) = n ≡ size
IsTreated false size (reduced None) = Unit {0}
IsTreated true size ordered = Unit {0}
IsTreated _ _ _ = ⊥

-- each set type has such a treatment
abbrev pub AreTreated : Sizes → List SetInfo → List Treatment → Type 0
AreTreated sizes [] [] = Unit {0}
AreTreated sizes (info ∷ sets) (t ∷ treatments) = IsTreated info.ordered (sizes info.name) t × AreTreated sizes sets treatments
AreTreated sizes _ _ = ⊥

-- ranges and set types, over which alone a parameter may be
abbrev pub IsIndexType : FlatSimple → Type 0
IsIndexType (Enum list) = ⊥
IsIndexType _ = Unit {0}

-- a case of these parameters, and a placing of each set type under which each of these values stands at the class that the case gives its parameter
pub record AreCovered (n : Numbered) (treatments : List Treatment) (params : List Parameter) (values : List Value) : Type 0 where
  pub classes : List Class
  pub is_case : Has (cases treatments params) classes
  pub spots : Placing
  pub are_placed : ArePlaced n (world n (types_at n.sets treatments params classes)) spots
  pub stands : map (placed spots) values ≡ places_at n params classes
