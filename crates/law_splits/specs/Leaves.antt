-- Leaves: the ends of the chains of splits, one for each unit of a design.
use Rattle.std.specs.Prelude.{ℕ, zero, suc, ◌+◌, ◌-◌, List, [], ◌∷◌, ◌++◌, map, flat_map, filter, find, length, slice_get, option_to_list, option_and_then, unwrap_or, Option, Some, None, if◌then◌else◌, nat_eq, nat_lt}
use Rattle.std.specs.Str.{bytes_eq}
use Rattle.std.specs.List.{join_with_byte}
use Rattle.smv_core.specs.Values.{Name}
use Rattle.smv_core.specs.declared.tree.Word.{Word}
use Rattle.smv_core.specs.declared.tree.Ref.{Ref}
use Rattle.smv_core.specs.declared.flat.Simple.{Simple}
use Rattle.smv_core.specs.declared.flat.Simple.TheVariants.{Enum}
use Rattle.smv_core.specs.declared.flat.Design.{Design}
use Rattle.smv_core.specs.declared.flat.Family.{Family}
use Rattle.smv_core.specs.declared.flat.Param.{Param}
use Rattle.smv_core.specs.declared.flat.FlatSplit.{FlatSplit}
use Rattle.smv_core.specs.declared.flat.FlatPair.{FlatPair}
use Rattle.smv_core.specs.declared.flat.Unit.{Unit}
use Rattle.smv_core.specs.declared.flat.Guard.{Guard}
use Rattle.smv_core.specs.declared.flat.Leaf.{Leaf}
use Rattle.law_obligations.specs.Soundness.{FlatUnit, map_of, claim_of, over_of}
use Rattle.law_obligations.specs.Outlines.{place_of, unit_in}
use Rattle.law_obligations.specs.Units.{units_of}
use Rattle.law_splits.specs.Variables.{renamed}

-- ---- names

-- a name as it is written: with a dot between its parts, and `//` before a layer
abbrev pub in_layer : Name → Option Name → Name
in_layer name None = name
in_layer name (Some layer) = name ++ 47 ∷ 47 ∷ layer

-- the name of what a reference names, without the names in its brackets
abbrev pub named_by : Ref → Name
named_by of = in_layer (join_with_byte 46 (map (λ word. word.name) of.path)) (map_word of.layer)
  where
    map_word : Option Word → Option Name
    map_word None = None
    map_word (Some word) = Some word.name

abbrev pub name_of_family : Option Family → Name
name_of_family None = []
name_of_family (Some f) = f.name

-- ---- parameters

-- numbered from this number on
abbrev pub numbered : ℕ → List Param → List Param
numbered k [] = []
numbered k (p ∷ params) = record p { var = k } ∷ numbered (suc k) params

-- parameters without names, for the indexes of a map's family
abbrev pub nameless : Simple → Param
nameless over = record { var = 0; over = over; name = [] }

-- those of these parameters that a word names
abbrev pub with_name : List Param → Word → List Param
with_name params word = option_to_list (find (λ p. bytes_eq p.name word.name) params)

module _ (d : Design) where
  -- the name of a unit: that of a claim, and that of a map's family with its layer
  abbrev pub name_of : FlatUnit → Name
  name_of (map_of def) = in_layer (name_of_family (slice_get d.families def.family)) (option_and_then (slice_get d.layers) def.layer)
  name_of (claim_of claim) = claim.name

  -- the parameters of a unit: of a map the indexes of its family
  abbrev pub own_params : FlatUnit → List Param
  own_params (map_of def) = numbered 0 (map nameless (over_of (slice_get d.families def.family)))
  own_params (claim_of claim) = claim.params

  -- the splits of what has this name (`subcase`: SMV language manual)
  abbrev pub splits_of : Name → List FlatSplit
  splits_of name = filter (λ s. bytes_eq (named_by s.of) name) d.splits

-- ---- splits

-- a split, with the parameters of what it splits
pub record Cut : Type 0 where
  pub params : List Param
  pub split : FlatSplit

abbrev pub cut : List Param → FlatSplit → Cut
cut params s = record { params = params; split = s }

-- the variables bound around a split that the brackets of its reference name, at the places of the parameters that they stand for
abbrev pub old : FlatSplit → List Param
old s = flat_map (with_name s.bound) s.of.names

-- the variable that is bound around a split and has a new name. Where none is, which is a fault, the name has a type that no variable has.
abbrev pub bound_as : List Param → Word → Param
bound_as bound word = unwrap_or (find (λ p. bytes_eq p.name word.name) bound) (record { var = 0; over = Enum 0; name = word.name })

-- the parameters that it adds, behind those of what it splits: one for each name in its brackets
abbrev pub new : Cut → List Param
new c = numbered (length c.params) (map (bound_as c.split.bound) c.split.vars)

abbrev pub all_params : Cut → List Param
all_params c = c.params ++ new c

-- the number of the parameter that a variable bound around a split stands for
abbrev pub stands_for : FlatSplit → ℕ → Option ℕ
stands_for s var = place_of (λ p. nat_eq p.var var) (old s)

-- The number of a variable of a split in a leaf with so many parameters: of one that is bound around the split that of its parameter; the
-- variables of inner binders come behind all parameters.
abbrev pub number_in : FlatSplit → ℕ → ℕ → ℕ
number_in s count var = if nat_lt var (length s.bound) then unwrap_or (stands_for s var) 0 else count + (var - length s.bound)

-- the guard of an equation in such a leaf
abbrev pub guard_of : FlatSplit → ℕ → FlatPair → Param → Guard
guard_of s count pair p = record { expr = renamed (number_in s count) pair.left; var = p.var; over = p.over; at = pair.at }

abbrev pub guards_of : ℕ → Cut → List Guard
guards_of count c = flat_map (λ pair. map (guard_of c.split count pair) (with_name (new c) pair.right)) c.split.pairs

-- ---- chains

-- one split, and what follows by its name and its parameters
abbrev pub onward : (Name → List Param → List Cut) → List Param → FlatSplit → List Cut
onward more params s = cut params s ∷ more s.name (all_params (cut params s))

abbrev pub onward_if : (Name → List Param → List Cut) → List Param → Option FlatSplit → List Cut
onward_if more params None = []
onward_if more params (Some s) = onward more params s

-- the parameters and the name at the end of a chain
abbrev pub params_after : List Param → List Cut → List Param
params_after params [] = params
params_after params (c ∷ cuts) = params_after (all_params c) cuts

abbrev pub name_after : Name → List Cut → Name
name_after name [] = name
name_after name (c ∷ cuts) = name_after c.split.name cuts

module _ (d : Design) where
  -- the chain of splits of what has this name and these parameters, with so many at most
  abbrev pub chain : ℕ → Name → List Param → List Cut
  chain zero name params = []
  chain (suc n) name params = onward_if (chain n) params (find (λ s. bytes_eq (named_by s.of) name) d.splits)

  abbrev pub chain_of : FlatUnit → List Cut
  chain_of unit = chain (length d.splits) (name_of d unit) (own_params d unit)

  -- the leaf of a unit: the end of its chain of splits
  abbrev pub leaf_of : ℕ → FlatUnit → Leaf
  leaf_of u unit =
      let cuts = chain_of unit in
      let params = params_after (own_params d unit) cuts in
      record { unit = u; name = name_after (name_of d unit) cuts; params = params; guards = flat_map (guards_of (length params)) cuts }

  abbrev pub leaves_from : ℕ → List Unit → List Leaf
  leaves_from u [] = []
  leaves_from u (unit ∷ units) = leaf_of u (unit_in d unit) ∷ leaves_from (suc u) units

-- the leaf of each unit of a design. For a design with a fault of splits they may be anything.
abbrev pub leaves_of : Design → List Leaf
leaves_of d = leaves_from d 0 (units_of d)
