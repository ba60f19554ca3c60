-- The units of a design, by what they say.
use Rattle.std.specs.Prelude.{◌≡◌, ℕ, List, Bool, false, ◌&&◌, nat_eq, Option, Some, None, if◌then◌else◌}
use Rattle.std.specs.HashMap.{HashMap, get_by}
use Rattle.smv_core.specs.declared.flat.Design.{Design}
use Rattle.smv_core.specs.declared.flat.Unit.{Unit}
use Rattle.law_obligations.specs.Outlines.{place_of, is_map, is_claim}
use Rattle.smv_unit_tables.specs.declared.units.UnitTable.{UnitTable}

abbrev pub same_pair : ℕ × ℕ → ℕ × ℕ → Bool
same_pair x y = nat_eq x.0 y.0 && nat_eq x.1 y.1

-- what is noted of a family and a layer, and of a claim
abbrev pub noted_map : {S : Type 0} → HashMap (ℕ × ℕ) ℕ S → ℕ → ℕ → Option ℕ
noted_map maps family layer = get_by (same_pair (family, layer)) maps

abbrev pub noted_claim : {S : Type 0} → HashMap ℕ ℕ S → ℕ → Option ℕ
noted_claim claims claim = get_by (nat_eq claim) claims

-- a place that was found, or else this one, where it is of what is looked for
abbrev pub found_or : Option ℕ → Bool → ℕ → Option ℕ
found_or (Some found) is_it place = Some found
found_or None is_it place = if is_it then Some place else None

-- the family and the layer of a map, if there is one, are these
abbrev pub is_key : Option (ℕ × ℕ) → ℕ → ℕ → Bool
is_key None family layer = false
is_key (Some key) family layer = same_pair key (family, layer)

module _ (d : Design) where
  -- the first place of each map and of each claim among some units
  pub record AreNoted (units : List Unit) (table : UnitTable) : Type 0 where
    pub maps : (family layer : ℕ) → noted_map table.maps family layer ≡ place_of (is_map d family layer) units
    pub claims : (claim : ℕ) → noted_claim table.claims claim ≡ place_of (is_claim claim) units

  -- one more unit, at this place
  pub record Notes (unit : Unit) (place : ℕ) (old new : UnitTable) : Type 0 where
    pub maps : (family layer : ℕ) → noted_map new.maps family layer ≡ found_or (noted_map old.maps family layer) (is_map d family layer unit) place
    pub claims : (claim : ℕ) → noted_claim new.claims claim ≡ found_or (noted_claim old.claims claim) (is_claim claim unit) place
