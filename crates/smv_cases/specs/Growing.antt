-- The cases of a leaf one parameter after the other: a class is tried only where it can stand after those before it.
use Rattle.std.specs.Prelude.{ℕ, List, [], ◌∷◌, ◌++◌, flat_map, length, slice_get, Option, Some, None, Bool, true, false, ◌&&◌, if◌then◌else◌, nat_le, nat_lt}
use Rattle.std.specs.List.{list_all}
use Rattle.smv_core.specs.declared.flat.Simple.{Simple}
use Rattle.smv_core.specs.declared.flat.Simple.TheVariants.{Set}
use Rattle.smv_core.specs.declared.flat.Class.{Class}
use Rattle.smv_core.specs.declared.flat.Class.TheVariants.{Named}
use Rattle.smv_core.specs.declared.abstract_type.Rest.TheVariants as beside
use Rattle.smv_core.specs.declared.abstract_type.AbsType.{AbsType}
use Rattle.law_obligations.specs.Cases.{Treatment, whole, reduced, ordered, Parameter, used, those_of, named_among, is_of, is_allowed, candidates}

-- each parameter of a scalarset that is not reduced counts as listed
abbrev pub counts : Treatment → Bool → Bool
counts (whole n) listed = true
counts _ listed = listed

-- the parameters of a set type that count as listed; or what stands at them
abbrev pub counted : {X : Type 0} → Treatment → ℕ → List Parameter → List X → List X
counted t set params xs = those_of (counts t) set params xs

-- the abstract type of a set type is within this one, where so many of its parameters count as listed
abbrev pub widest : Treatment → ℕ → AbsType
widest (whole n) count = record { named = count; rest = beside.None }
widest (reduced size) count = record { named = count; rest = beside.One }
widest ordered count = record { named = count; rest = beside.Gaps }

-- a number below the size, where there is one
abbrev pub is_within : Option ℕ → ℕ → Bool
is_within None c = true
is_within (Some n) c = nat_lt c n

-- a class that a listed parameter may have, where those before it use so many and so many count as listed
abbrev pub may_follow : Treatment → ℕ → ℕ → Class → Bool
may_follow (whole n) count m (Named c) = nat_le c m && nat_lt c n
may_follow (reduced size) count m (Named c) = nat_le c m && is_within size c
may_follow ordered count m (Named c) = nat_lt c count
may_follow _ _ _ _ = false

-- a class that a parameter of a set type may have after these of the parameters before it
abbrev pub may_stand : Treatment → ℕ → List Parameter → List Class → Bool → Class → Bool
may_stand t set params before listed x =
    if counts t listed then may_follow t (length (counted t set params params)) (used (named_among (counted t set params before))) x
    else is_of (widest t (length (counted t set params params))) x

module _ (treatments : List Treatment) (params : List Parameter) where
  -- the same at a parameter of any type: one over a range or over no set type of the design may have any of its candidates
  abbrev pub may_stand_in : Option Treatment → ℕ → List Class → Bool → Class → Bool
  may_stand_in None set before listed x = true
  may_stand_in (Some t) set before listed x = may_stand t set params before listed x

  abbrev pub may_stand_at : Simple → List Class → Bool → Class → Bool
  may_stand_at (Set set) before listed x = may_stand_in (slice_get treatments set) set before listed x
  may_stand_at _ before listed x = true

  -- the rules of the set type of a parameter are kept
  abbrev pub keeps_in : Option Treatment → ℕ → List Class → Bool
  keeps_in None set classes = true
  keeps_in (Some t) set classes = is_allowed t set params classes

  abbrev pub keeps_at : List Class → Simple → Bool
  keeps_at classes (Set set) = keeps_in (slice_get treatments set) set classes
  keeps_at classes _ = true

  -- so for each parameter
  abbrev pub keeps_all : List Class → Bool
  keeps_all classes = list_all (λ p. keeps_at classes p.over) params

  -- the cases that begin with these classes, where these parameters are left
  abbrev pub grown : List Class → List Parameter → List (List Class)
  grown before [] = if keeps_all before then before ∷ [] else []
  grown before (p ∷ more) = flat_map (λ x. if may_stand_at p.over before p.listed x then grown (before ++ x ∷ []) more else []) (candidates treatments (length params) p.over)
