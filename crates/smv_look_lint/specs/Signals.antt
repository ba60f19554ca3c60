-- Which signals of a design are defined, are read, are what a map is about, and have a map that a proof uses.
use Rattle.std.specs.Prelude.{ℕ, List, [], ◌∷◌, ◌++◌, map, flat_map, filter, slice_get, option_to_list, Option, Some, None, Bool, not, nat_eq}
use Rattle.std.specs.List.{list_any}
use Rattle.smv_core.specs.declared.flat.Choice.{Choice}
use Rattle.smv_core.specs.declared.flat.Claim.{Claim}
use Rattle.smv_core.specs.declared.flat.Def.{Def}
use Rattle.smv_core.specs.declared.flat.Design.{Design}
use Rattle.smv_core.specs.declared.flat.FlatExpr.{FlatExpr}
use Rattle.smv_core.specs.declared.flat.FlatPair.{FlatPair}
use Rattle.smv_core.specs.declared.flat.FlatSplit.{FlatSplit}
use Rattle.smv_core.specs.declared.flat.Pick.{Pick}
use Rattle.smv_core.specs.declared.flat.Unit.{Unit}
use Rattle.law_designs.specs.Reading.{Reading, Reference, references}
use Rattle.law_designs.specs.LayerFaults.{assignments_of}
use Rattle.law_obligations.specs.Outlines.{map_in, may_be_base, unit_in}

-- a number is one of these
abbrev pub is_among : List ℕ → ℕ → Bool
is_among numbers k = list_any (nat_eq k) numbers

-- the families of some references
abbrev pub families_of : List Reference → List ℕ
families_of reads = map (λ (r : Reference). r.family) reads

-- the same without this one
abbrev pub other_families : ℕ → List Reference → List ℕ
other_families own reads = filter (λ k. not (nat_eq k own)) (families_of reads)

-- the families that the assignments of a definition read, its own aside
unfoldable pub read_by_def : Def → List ℕ
read_by_def def = flat_map (λ (a : Reading). other_families def.family a.reads) (assignments_of def)

-- those that an expression reads
abbrev pub read_by : FlatExpr → List ℕ
read_by e = families_of (references e)

unfoldable pub read_by_split : FlatSplit → List ℕ
read_by_split split = flat_map (λ (pair : FlatPair). read_by pair.left) split.pairs

module _ (d : Design) where
  -- the families that something reads: a definition of another family, a claim, or an equation of a split
  abbrev pub families_read : List ℕ
  families_read = flat_map read_by_def d.defs ++ flat_map (λ (claim : Claim). read_by claim.body) d.claims ++ flat_map read_by_split d.splits

  -- a definition may be the base definition of its family
  abbrev pub may_be_own_base : Def → Bool
  may_be_own_base def = may_be_base d def.family (slice_get d.families def.family) def

  -- the families that have a base definition
  abbrev pub families_defined : List ℕ
  families_defined = map (λ (def : Def). def.family) (filter may_be_own_base d.defs)

  -- the family of a map
  abbrev pub map_families : Unit → List ℕ
  map_families unit = map (λ (def : Def). def.family) (option_to_list (map_in (unit_in d unit)))

  -- the families of which a unit is a map
  abbrev pub families_mapped : List Unit → List ℕ
  families_mapped units = flat_map map_families units

-- the family of which a definition in a layer is chosen; one that is free has none
abbrev pub picked_in : Pick → Option ℕ → List ℕ
picked_in p None = []
picked_in p (Some layer) = p.family ∷ []

abbrev pub picked : Pick → List ℕ
picked p = picked_in p p.layer

-- the families of which a proof uses a map
abbrev pub families_picked : List Choice → List ℕ
families_picked choices = flat_map (λ (choice : Choice). flat_map picked choice.picks) choices
