-- Outlines and scripts of proofs: a design with its units; and with the leaf of each unit and what each leaf's proof uses.
use Rattle.std.specs.Prelude.{ℕ, suc, List, [], ◌∷◌, map, flat_map, filter, find, length, slice_get, option_to_list, option_and_then, is_none, Option, Some, None, option_map, Bool, false, ◌&&◌, ◌||◌, if◌then◌else◌, nat_eq, nat_lt}
use Rattle.smv_core.specs.Values.{numbers_from}
use Rattle.smv_core.specs.FlatMeaning.{Numbered}
use Rattle.smv_core.specs.declared.flat.Design.{Design}
use Rattle.smv_core.specs.declared.flat.Family.{Family}
use Rattle.smv_core.specs.declared.flat.Def.{Def}
use Rattle.smv_core.specs.declared.flat.Claim.{Claim as FlatClaim}
use Rattle.smv_core.specs.declared.flat.Unit.{Unit}
use Rattle.smv_core.specs.declared.flat.Unit.TheVariants.{Map, Claim}
use Rattle.smv_core.specs.declared.flat.Leaf.{Leaf}
use Rattle.smv_core.specs.declared.flat.Choice.{Choice}
use Rattle.smv_core.specs.declared.flat.Pick.{Pick}
use Rattle.smv_core.specs.declared.flat.Assumed.{Assumed}
use Rattle.smv_core.specs.declared.flat.FlatExpr.{Number}
use Rattle.law_obligations.specs.Soundness.{FlatUnit, map_of, claim_of}

-- a design with its units in flat order
pub record Outline : Type 0 where
  pub design : Design
  pub units : List Unit

-- a unit, its leaf, and what the leaf's proof uses
pub record Entry : Type 0 where
  pub unit : Unit
  pub leaf : Leaf
  pub choice : Choice

-- a design with each unit, its leaf and what the leaf's proof uses, in flat order
pub record Script : Type 0 where
  pub design : Design
  pub entries : List Entry

-- one leaf and one choice for each unit
abbrev pub entries_of : List Unit → List Leaf → List Choice → List Entry
entries_of (unit ∷ units) (leaf ∷ leaves) (choice ∷ choices) = record { unit = unit; leaf = leaf; choice = choice } ∷ entries_of units leaves choices
entries_of _ _ _ = []

-- the design and its units
abbrev pub outline_of : Script → Outline
outline_of s = record { design = s.design; units = map (λ entry. entry.unit) s.entries }

-- the place of the first that passes a test
abbrev pub place_of : {X : Type 0} → (X → Bool) → List X → Option ℕ
place_of test [] = None
place_of test (x ∷ xs) = if test x then Some 0 else option_map (λ k. suc k) (place_of test xs)

-- in this layer
abbrev pub is_in_layer : ℕ → Option ℕ → Bool
is_in_layer layer None = false
is_in_layer layer (Some other) = nat_eq other layer

-- of two definitions the one that stands earlier
abbrev pub earlier : Def → Option Def → Def
earlier def None = def
earlier def (Some other) = if nat_lt other.place def.place then other else def

-- the one that stands first in flat order
abbrev pub earliest : List Def → Option Def
earliest [] = None
earliest (def ∷ defs) = Some (earlier def (earliest defs))

-- a claim that says nothing, in place of a definition or a claim that is not there
abbrev pub nothing_claimed : FlatClaim
nothing_claimed = record { name = []; vars = []; params = []; body = Number 1 0; place = 0; at = 0 }

abbrev pub as_map : Option Def → FlatUnit
as_map (Some def) = map_of def
as_map None = claim_of nothing_claimed

abbrev pub as_claim : Option FlatClaim → FlatUnit
as_claim (Some claim) = claim_of claim
as_claim None = claim_of nothing_claimed

-- the definition of a unit that is a map, and the claim of one that is a claim
abbrev pub map_in : FlatUnit → Option Def
map_in (map_of def) = Some def
map_in (claim_of claim) = None

abbrev pub claim_in : FlatUnit → Option FlatClaim
claim_in (map_of def) = None
claim_in (claim_of claim) = Some claim

-- a definition of this family in this layer
abbrev pub is_def : ℕ → ℕ → Option Def → Bool
is_def family layer None = false
is_def family layer (Some def) = nat_eq def.family family && is_in_layer layer def.layer

-- the claim of this place among the claims
abbrev pub is_claim : ℕ → Unit → Bool
is_claim claim (Map def) = false
is_claim claim (Claim other) = nat_eq other claim

module _ (d : Design) where
  -- what the numbers in the design stand for
  abbrev pub names_of : Numbered
  names_of = record { sets = d.sets; enums = d.enums; families = d.families; sizes = λ name. 1 }

  -- a definition of the family that may be its base definition: of an abstract family any, of another that outside layers
  abbrev pub may_be_base : ℕ → Option Family → Def → Bool
  may_be_base family None def = false
  may_be_base family (Some f) def = nat_eq def.family family && (f.is_abstract || is_none def.layer)

  -- the base definition of a family; without one it is free (that the first layer gives an abstract signal its base definition is this project's choice)
  abbrev pub base_of : ℕ → Option Def
  base_of family = earliest (filter (may_be_base family (slice_get d.families family)) d.defs)

  -- the base definitions
  abbrev pub bases : List Def
  bases = flat_map (λ family. option_to_list (base_of family)) (numbers_from 0 (length d.families))

  -- what a unit says
  abbrev pub unit_in : Unit → FlatUnit
  unit_in (Map def) = as_map (slice_get d.defs def)
  unit_in (Claim claim) = as_claim (slice_get d.claims claim)

  -- the map of a family in a layer
  abbrev pub is_map : ℕ → ℕ → Unit → Bool
  is_map family layer (Map def) = is_def family layer (slice_get d.defs def)
  is_map family layer (Claim claim) = false

module _ (o : Outline) where
  -- the unit of a map, and that of a claim, by its place; a base definition is none
  abbrev pub map_unit : ℕ → ℕ → Option ℕ
  map_unit family layer = place_of (is_map o.design family layer) o.units

  abbrev pub claim_unit : ℕ → Option ℕ
  claim_unit claim = place_of (is_claim claim) o.units

  -- what the unit at a place says
  abbrev pub said_by : Option Unit → Option FlatUnit
  said_by None = None
  said_by (Some unit) = Some (unit_in o.design unit)

  -- a claim that is assumed
  abbrev pub claim_by : Option ℕ → Option FlatClaim
  claim_by None = None
  claim_by (Some v) = option_and_then claim_in (said_by (slice_get o.units v))

  abbrev pub assumed : Assumed → Option FlatClaim
  assumed used = claim_by (claim_unit used.claim)

  -- the definition that a pick of the family chooses: that of the unit which it names, or the base definition; none where the family is free
  abbrev pub map_by : ℕ → Option ℕ → Option Def
  map_by family None = base_of o.design family
  map_by family (Some v) = option_and_then map_in (said_by (slice_get o.units v))

  abbrev pub map_in_layer : ℕ → Option ℕ → Option Def
  map_in_layer family None = None
  map_in_layer family (Some layer) = map_by family (map_unit family layer)

  -- the unit that it names, if there is one
  abbrev pub unit_in_layer : ℕ → Option ℕ → Option ℕ
  unit_in_layer family None = None
  unit_in_layer family (Some layer) = map_unit family layer

  abbrev pub picked_unit : Pick → Option ℕ
  picked_unit p = unit_in_layer p.family p.layer

  -- the definition of a family that a proof uses: by its pick, and else the base definition
  abbrev pub map_by_pick : ℕ → Option Pick → Option Def
  map_by_pick family None = base_of o.design family
  map_by_pick family (Some p) = map_in_layer p.family p.layer

  abbrev pub chosen : List Pick → ℕ → Option Def
  chosen picks family = map_by_pick family (find (λ p. nat_eq p.family family) picks)
