-- What the program holds of base definitions.
use Rattle.std.specs.Prelude.{◌≡◌, ℕ, ◌<◌, List, [], ◌++◌, length, slice_get, slice_index_or, Option, Some, None, Bool, false, ◌&&◌, ◌||◌, nat_eq, nat_lt}
use Rattle.std.specs.List.{list_any}
use Rattle.smv_core.specs.declared.flat.Def.{Def}
use Rattle.smv_core.specs.declared.flat.Design.{Design}
use Rattle.law_designs.specs.Loops.{may_be_base}
use Rattle.law_designs.specs.Reading.{Reading}
use Rattle.smv_loops.specs.Held.{assigned_in}

abbrev pub is_below : Option ℕ → ℕ → Bool
is_below None place = false
is_below (Some first) place = nat_lt first place

abbrev pub undelayed_of : Def → List Reading
undelayed_of def = assigned_in def.family [] def.comb ++ assigned_in def.family [] def.init

module _ (d : Design) where
  -- a definition may be the family's base definition and stands before this place
  abbrev pub stands_before : ℕ → ℕ → Def → Bool
  stands_before family place other = nat_eq other.family family && (nat_lt other.place place && may_be_base d (slice_get d.families other.family) other)

  -- for each family the least place of those of these definitions that may be its base definition
  pub record AreFirsts (firsts : List (Option ℕ)) (defs : List Def) : Type 0 where
    pub room : length firsts ≡ length d.families
    pub each : (family place : ℕ) → family < length d.families → list_any (stands_before family place) defs ≡ is_below (slice_index_or firsts family None) place

  -- one more definition
  pub record NotedBy (def : Def) (old new : List (Option ℕ)) : Type 0 where
    pub room : length new ≡ length old
    pub each : (family place : ℕ) → family < length old → is_below (slice_index_or new family None) place ≡ is_below (slice_index_or old family None) place || stands_before family place def
