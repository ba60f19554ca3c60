-- Chains of splits by the types of their parameters alone.
use Rattle.std.specs.Prelude.{◌≡◌, ℕ, zero, suc, List, [], ◌∷◌, ◌++◌, map, flat_map, length, slice_get, not, true, ◌&&◌}
use Rattle.std.specs.List.{list_any}
use Rattle.smv_core.specs.Values.{Name}
use Rattle.smv_core.specs.declared.tree.Word.{Word}
use Rattle.smv_core.specs.declared.flat.Simple.{Simple}
use Rattle.smv_core.specs.declared.flat.Design.{Design}
use Rattle.smv_core.specs.declared.flat.Param.{Param}
use Rattle.smv_core.specs.declared.flat.FlatSplit.{FlatSplit}
use Rattle.law_obligations.specs.Sets.{Has}
use Rattle.law_obligations.specs.Soundness.{FlatUnit, map_of, claim_of, over_of}
use Rattle.smv_mentions.specs.NameFaults.{place_if}
use Rattle.law_obligations.specs.Outlines.{unit_in}
use Rattle.law_obligations.specs.Units.{units_of}
use Rattle.law_splits.specs.Leaves.{named_by, with_name, name_of, splits_of, bound_as}
use Rattle.law_splits.specs.SplitFaults.{leads_to_unit, same_type, miscounted, is_of_variables, mismatches, cuts_of}

abbrev pub types_of : List Param → List Simple
types_of params = map (λ (p : Param). p.over) params

-- the types of the parameters that a split adds
abbrev pub new_types : FlatSplit → List Simple
new_types s = map (λ (word : Word). (bound_as s.bound word).over) s.vars

-- a name that is bound with another type than its parameter, where that has one
abbrev pub other_type : List Param → Word → Simple → List ℕ
other_type bound word t = place_if (is_of_variables t && list_any (λ b. not (same_type b.over t)) (with_name bound word)) word.at

abbrev pub other_types : List Param → List Word → List Simple → List ℕ
other_types bound (word ∷ words) (t ∷ types) = other_type bound word t ++ other_types bound words types
other_types bound _ _ = []

-- what a split shows of parameters of these types
abbrev pub mismatches_by : FlatSplit → List Simple → List ℕ
mismatches_by s types = miscounted (length types) s.of.names ++ other_types s.bound s.of.names types

-- what it shows, and then what follows by its name and its parameters
abbrev pub from_split : (Name → List Simple → List ℕ) → List Simple → FlatSplit → List ℕ
from_split more types s = mismatches_by s types ++ more s.name (types ++ new_types s)

module _ (d : Design) where
  -- what all splits show that lead to what has this name and parameters of these types, from split to split, so many at most
  abbrev pub shown : ℕ → Name → List Simple → List ℕ
  shown zero name types = []
  shown (suc n) name types = flat_map (from_split (shown n) types) (splits_of d name)

  -- the types of a unit's parameters
  abbrev pub unit_types : FlatUnit → List Simple
  unit_types (map_of def) = over_of (slice_get d.families def.family)
  unit_types (claim_of claim) = types_of claim.params

  abbrev pub shown_of_units : List ℕ
  shown_of_units = flat_map (λ unit. shown (length d.splits) (name_of d (unit_in d unit)) (unit_types (unit_in d unit))) (units_of d)

-- what splits show of the parameters before them is told by the types of these
abbrev pub TypesTell : Type 0
TypesTell = (d : Design) → flat_map mismatches (cuts_of d) ≡ shown_of_units d

-- what a split is of leads to a unit in one split more than there are only where it does so in as many
abbrev pub LeadsAtLast : Type 0
LeadsAtLast = (d : Design) (s : FlatSplit) → Has d.splits s → leads_to_unit d (suc (length d.splits)) (named_by s.of) ≡ true → leads_to_unit d (length d.splits) (named_by s.of) ≡ true
