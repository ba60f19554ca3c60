-- Chains of splits as they are followed: by each split with the number of its first new parameter.
use Rattle.std.specs.Prelude.{ℕ, ◌+◌, List, [], ◌∷◌, ◌++◌, map, flat_map, length, unwrap_or}
use Rattle.smv_core.specs.Values.{Name, numbers_from}
use Rattle.smv_core.specs.declared.flat.Design.{Design}
use Rattle.smv_core.specs.declared.flat.Param.{Param}
use Rattle.smv_core.specs.declared.flat.FlatSplit.{FlatSplit}
use Rattle.smv_core.specs.declared.flat.FlatPair.{FlatPair}
use Rattle.smv_core.specs.declared.flat.Guard.{Guard}
use Rattle.smv_core.specs.declared.flat.Leaf.{Leaf}
use Rattle.law_splits.specs.Variables.{renamed}
use Rattle.law_splits.specs.Leaves.{Cut, cut, with_name, numbered, bound_as, all_params, stands_for, number_in, params_after, name_after, chain}
use Rattle.smv_splits.specs.declared.chains.Link.{Link}
use Rattle.smv_splits.specs.declared.chains.Chain.{Chain}

-- a split and the number of its first new parameter
abbrev pub Place : Type 0
Place = FlatSplit × ℕ

abbrev pub link_held : Link → Place
link_held link = (link.split.now, link.first)

abbrev pub place_of : Cut → Place
place_of c = (c.split, length c.params)

-- the parameters and the name at the end of a chain so far, and its splits
pub record Followed : Type 0 where
  pub params : List Param
  pub name : Name
  pub links : List Place

abbrev pub held : Chain → Followed
held chain = record { params = chain.params.items; name = chain.name.now; links = map link_held chain.links.items }

-- a chain with one split more
abbrev pub further : Followed → FlatSplit → Followed
further so_far s = record { params = all_params (cut so_far.params s); name = s.name; links = so_far.links ++ (s, length so_far.params) ∷ [] }

-- a chain with these splits more
abbrev pub beyond : Followed → List Cut → Followed
beyond so_far cuts = record { params = params_after so_far.params cuts; name = name_after so_far.name cuts; links = so_far.links ++ map place_of cuts }

-- a chain at its end, with so many splits more at most
abbrev pub ended : Design → ℕ → Followed → Followed
ended d n so_far = beyond so_far (chain d n so_far.name so_far.params)

-- ---- guards

-- the numbers of the parameters for which the variables around a split stand
abbrev pub given : FlatSplit → List ℕ
given s = map (λ place. unwrap_or place 0) (map (stands_for s) (numbers_from 0 (length s.bound)))

-- the guard of an equation, with these numbers for its variables
abbrev pub guard_by : (ℕ → ℕ) → FlatPair → Param → Guard
guard_by number pair p = record { expr = renamed number pair.left; var = p.var; over = p.over; at = pair.at }

-- the guards of a split in a leaf with so many parameters
abbrev pub guards_at : ℕ → Place → List Guard
guards_at count (s, first) = flat_map (λ pair. map (guard_by (number_in s count) pair) (with_name (numbered first (map (bound_as s.bound) s.vars)) pair.right)) s.pairs

-- the leaf at the end of a chain
abbrev pub leaf_at_end : ℕ → Followed → Leaf
leaf_at_end unit chain = record { unit = unit; name = chain.name; params = chain.params; guards = flat_map (guards_at (length chain.params)) chain.links }
