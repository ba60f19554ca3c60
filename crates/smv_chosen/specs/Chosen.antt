-- What is found on the way to the chosen definition of a family.
use Rattle.std.specs.Prelude.{ℕ, List, [], ◌∷◌, slice_get, is_none, Option, Some, None, Bool, ◌&&◌, ◌||◌, if◌then◌else◌, nat_eq}
use Rattle.smv_core.specs.declared.flat.Design.{Design}
use Rattle.smv_core.specs.declared.flat.Family.{Family}
use Rattle.smv_core.specs.declared.flat.Def.{Def}
use Rattle.smv_core.specs.declared.flat.Unit.{Unit}
use Rattle.smv_core.specs.declared.flat.Unit.TheVariants.{Map, Claim}
use Rattle.law_obligations.specs.Outlines.{is_in_layer, earlier}

-- a definition that may be the base definition of a family: of an abstract family any, of another that outside layers
abbrev pub may_be_base : ℕ → Family → Def → Bool
may_be_base family f def = nat_eq def.family family && (f.is_abstract || is_none def.layer)

-- of two definitions the one that stands earlier, if there is one; of two at one place the first
abbrev pub earlier_of : Option Def → Option Def → Option Def
earlier_of None other = other
earlier_of (Some def) other = Some (earlier def other)

-- the definition, where it is one of the family in the layer
abbrev pub if_def : ℕ → ℕ → Option Def → Option Def
if_def family layer None = None
if_def family layer (Some def) = if nat_eq def.family family && is_in_layer layer def.layer then Some def else None

-- that of a unit, and that of the first of some units that has one
abbrev pub map_of_unit : Design → ℕ → ℕ → Unit → Option Def
map_of_unit d family layer (Map def) = if_def family layer (slice_get d.defs def)
map_of_unit d family layer (Claim claim) = None

abbrev pub or_else : Option Def → Option Def → Option Def
or_else None other = other
or_else (Some def) other = Some def

abbrev pub first_map : Design → ℕ → ℕ → List Unit → Option Def
first_map d family layer [] = None
first_map d family layer (unit ∷ units) = or_else (map_of_unit d family layer unit) (first_map d family layer units)
