-- The splits of a design in groups by what they are of, each split by its number.
use Rattle.std.specs.Prelude.{◌≡◌, ℕ, suc, List, [], ◌∷◌, ◌++◌, map, flat_map, length, unwrap_or, slice_set, Option, Some, None, Bool, if◌then◌else◌, nat_lt}
use Rattle.std.specs.Str.{bytes_eq}
use Rattle.smv_core.specs.Values.{Name}
use Rattle.smv_core.specs.declared.flat.Design.{Design}
use Rattle.smv_core.specs.declared.flat.FlatSplit.{FlatSplit}
use Rattle.smv_core.specs.declared.flat.Unit.{Unit}
use Rattle.smv_mentions.specs.Scopes.{first_of_places}
use Rattle.smv_first_fault.specs.Firsts.{least}
use Rattle.name_index.specs.Position.{position}
use Rattle.graph_search.specs.Walks.{lists}
use Rattle.graph_search.specs.Reverse.{after}
use Rattle.law_obligations.specs.Outlines.{unit_in}
use Rattle.law_splits.specs.Leaves.{named_by, name_of}
use Rattle.law_splits.specs.SplitFaults.{leads_to_unit, astray, split_again}
use Rattle.smv_splits.specs.declared.groups.Tables.{Tables}

-- the numbers of the places of a name in a list, where the first has this number
abbrev pub numbers_with : Name → ℕ → List Name → List ℕ
numbers_with name k [] = []
numbers_with name k (x ∷ names) = (if bytes_eq x name then k ∷ [] else []) ++ numbers_with name (suc k) names

-- groups with a number more in that of a place, if there is one
abbrev pub noted_in : List (List ℕ) → Option ℕ → ℕ → List (List ℕ)
noted_in groups None number = groups
noted_in groups (Some place) number = if nat_lt place (length groups) then slice_set groups place (after groups place ++ number ∷ []) else groups

-- for the first place of each name the numbers of its places
pub record AreGroups (names : List Name) (groups : List (List ℕ)) : Type 0 where
  pub room : length groups ≡ length names
  pub each : (name : Name) (place : ℕ) → position names name ≡ Some place → after groups place ≡ numbers_with name 0 names

abbrev pub names_split : Design → List Name
names_split d = map (λ (s : FlatSplit). named_by s.of) d.splits

-- the names of what the design's splits are of, and their groups
pub record AreTables (tables : Tables) : Type 0 where
  pub named : tables.named ≡ names_split tables.design.now
  pub groups : AreGroups tables.named (lists tables.groups.items)

-- the place of the group of what a split makes
abbrev pub next_place : List Name → ℕ → FlatSplit → ℕ
next_place named count s = unwrap_or (position named s.name) count

-- the numbers of the splits of a unit
abbrev pub splits_of_unit : Design → List Name → Unit → List ℕ
splits_of_unit d named unit = numbers_with (name_of d (unit_in d unit)) 0 named

-- what a split is of leads to a unit
abbrev pub leads : Design → FlatSplit → Bool
leads d s = leads_to_unit d (length d.splits) (named_by s.of)

-- what a split is of, at its reference
abbrev pub place_of_split : FlatSplit → ℕ × Name
place_of_split s = (s.of.at, named_by s.of)

-- the first place of fault 23
abbrev pub first_lost : Design → Option ℕ
first_lost d = first_of_places (least (flat_map (astray d) d.splits)) (least (split_again d.splits))
