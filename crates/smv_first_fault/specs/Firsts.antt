-- The first of some places, and the first of some faults: by place, and at one place by number.
use Rattle.std.specs.Prelude.{◌≡◌, ℕ, List, [], ◌∷◌, ◌++◌, Option, Some, None, option_map}
use Rattle.smv_core.specs.declared.fault.Fault.{Fault}
use Rattle.smv_mentions.specs.Scopes.{first_of_places}
use Rattle.smv_mentions.specs.FirstFault.{earlier, first_of}

-- the least of some places
abbrev pub least : List ℕ → Option ℕ
least [] = None
least (at ∷ places) = first_of_places (Some at) (least places)

-- a fault of this number at a place, where there is a place
abbrev pub fault_at : ℕ → Option ℕ → Option Fault
fault_at number at = option_map (λ at. record { number = number; at = at }) at

-- the earlier of two faults, of which each may be missing
abbrev pub earlier_of : Option Fault → Option Fault → Option Fault
earlier_of None g = g
earlier_of (Some f) g = earlier f g

-- the first of two lists of faults is the earlier of their first ones
abbrev pub FirstOfBoth : Type 0
FirstOfBoth = (xs ys : List Fault) → first_of (xs ++ ys) ≡ earlier_of (first_of xs) (first_of ys)

-- of several faults, in whatever order they are compared, the same is the earliest
abbrev pub AnyOrder : Type 0
AnyOrder = ((f g : Option Fault) → earlier_of f g ≡ earlier_of g f) × ((f g h : Option Fault) → earlier_of (earlier_of f g) h ≡ earlier_of f (earlier_of g h))
