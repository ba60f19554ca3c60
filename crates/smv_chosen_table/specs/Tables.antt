-- Tables of definitions, one for each family; each by reference.
use Rattle.std.specs.Prelude.{◌≡◌, ℕ, List, find, nat_eq, slice_get, option_copied, Option, Some, None}
use Rattle.std.proofs.Common.{Bor}
use Rattle.smv_core.specs.declared.flat.Design.{Design}
use Rattle.smv_core.specs.declared.flat.Def.{Def}
use Rattle.smv_core.specs.declared.flat.Pick.{Pick}
use Rattle.smv_core.specs.declared.flat.Unit.{Unit}
use Rattle.law_obligations.specs.Outlines.{Outline, unit_in, map_in, base_of, chosen}
use Rattle.smv_unit_tables.specs.Bases.{AreBases}
use Rattle.smv_unit_tables.specs.Units.{AreNoted}
use Rattle.smv_chosen_table.specs.declared.DefIndex.{DefIndex}

-- the numbers of the base definitions of a design, and the places of its units
pub record IsIndex (d : Design) (units : List Unit) (index : DefIndex) : Type 0 where
  pub bases : AreBases d index.bases.items
  pub noted : AreNoted d units index.units

-- what a proof with these picks uses for each family of the table
abbrev pub IsTable : Outline → List Pick → List (Option (Bor Def)) → Type 0
IsTable o picks table = (family : ℕ) (def : Option (Bor Def)) → slice_get table family ≡ Some def → option_copied def ≡ chosen o picks family

-- the base definition of each family of the table
abbrev pub AreBaseDefs : Design → List (Option (Bor Def)) → Type 0
AreBaseDefs d table = (family : ℕ) (def : Option (Bor Def)) → slice_get table family ≡ Some def → option_copied def ≡ base_of d family

-- the same of each family that none of these picks is of
abbrev pub AreBaseDefsBut : Design → List Pick → List (Option (Bor Def)) → Type 0
AreBaseDefsBut d picks table = (family : ℕ) (def : Option (Bor Def)) → slice_get table family ≡ Some def → find (λ (p : Pick). nat_eq p.family family) picks ≡ None → option_copied def ≡ base_of d family

-- the definition of a unit that is a map
abbrev pub map_of_unit : Design → Option Unit → Option Def
map_of_unit d None = None
map_of_unit d (Some unit) = map_in (unit_in d unit)
