-- The cases of a leaf: which classes its parameters may have.
use Rattle.std.specs.Prelude.{ℕ, suc, ◌+◌, ◌-◌, List, [], ◌∷◌, ◌++◌, map, flat_map, filter, length, max, Option, Some, None, Bool, true, false, not, ◌&&◌, if◌then◌else◌, nat_eq, nat_lt, nat_le}
use Rattle.std.specs.List.{list_any, list_all}
use Rattle.smv_core.specs.Values.{numbers_from}
use Rattle.smv_core.specs.declared.flat.Simple.{Simple}
use Rattle.smv_core.specs.declared.flat.Simple.TheVariants.{Range, Enum, Set}
use Rattle.smv_core.specs.declared.flat.Class.{Class}
use Rattle.smv_core.specs.declared.flat.Class.TheVariants.{Number, Named, Rest}
use Rattle.smv_core.specs.declared.abstract_type.Rest.TheVariants as beside
use Rattle.smv_core.specs.declared.abstract_type.AbsType.{AbsType}
use Rattle.law_obligations.specs.Places.{rests_beside}
use Rattle.law_obligations.specs.Sets.{one_of_each}

-- how a set type is abstracted: a scalarset of so many values as it is, a scalarset reduced (with its number of values, where it has one), or an ordset
pub data Treatment : Type 0 where
  whole : ℕ → Treatment
  reduced : Option ℕ → Treatment
  ordered : Treatment

-- a parameter: its type, and whether it is listed, that is stays apart from the others
pub record Parameter : Type 0 where
  pub over : Simple
  pub listed : Bool

-- how many classes are used
abbrev pub used : List ℕ → ℕ
used [] = 0
used (c ∷ cs) = max (suc c) (used cs)

-- each class is at most one above the greatest before it (symmetry: McMillan, CAV 1998)
abbrev pub grow : ℕ → List ℕ → Bool
grow m [] = true
grow m (c ∷ cs) = nat_le c m && grow (max m (suc c)) cs

-- no class below the greatest is left out
abbrev pub fill : List ℕ → Bool
fill cs = list_all (λ c. list_any (nat_eq c) cs) (numbers_from 0 (used cs))

-- below the number of values, where there is one
abbrev pub are_below : Option ℕ → List ℕ → Bool
are_below None cs = true
are_below (Some n) cs = list_all (λ c. nat_lt c n) cs

-- a type is this set type
abbrev pub is_set : ℕ → Simple → Bool
is_set set (Set other) = nat_eq other set
is_set set _ = false

-- what stands at the parameters of a set type, of those that are listed so: their classes or their values
abbrev pub those_of : {X : Type 0} → (Bool → Bool) → ℕ → List Parameter → List X → List X
those_of test set (p ∷ params) (x ∷ xs) = if is_set set p.over && test p.listed then x ∷ those_of test set params xs else those_of test set params xs
those_of test set _ _ = []

-- the numbers of named classes
abbrev pub named_among : List Class → List ℕ
named_among classes = flat_map number_of classes
  where
    number_of : Class → List ℕ
    number_of (Named c) = c ∷ []
    number_of _ = []

-- every class is named
abbrev pub are_named : List Class → Bool
are_named classes = nat_eq (length (named_among classes)) (length classes)

-- the abstract type of a set type whose listed parameters use so many classes: a reduced scalarset has a rest where it may have more values
abbrev pub abstract_type : Treatment → ℕ → AbsType
abstract_type (whole n) m = record { named = n; rest = beside.None }
abstract_type (reduced None) m = record { named = m; rest = beside.One }
abstract_type (reduced (Some n)) m = record { named = m; rest = if nat_lt m n then beside.One else beside.None }
abstract_type ordered m = record { named = m; rest = beside.Gaps }

-- a class or a rest of an abstract type
abbrev pub is_of : AbsType → Class → Bool
is_of t (Named c) = nat_lt c t.named
is_of t (Rest g) = list_any (nat_eq g) (rests_beside t.rest t.named)
is_of t (Number k) = false

-- the classes of the listed parameters obey the rule of their type
abbrev pub is_orderly : Treatment → List ℕ → Bool
is_orderly (whole n) cs = grow 0 cs && are_below (Some n) cs
is_orderly (reduced size) cs = grow 0 cs && are_below size cs
is_orderly ordered cs = fill cs

-- in a scalarset that is not reduced each parameter counts as listed
abbrev pub listed_classes : Treatment → ℕ → List Parameter → List Class → List Class
listed_classes (whole n) set params classes = those_of (λ listed. true) set params classes
listed_classes _ set params classes = those_of (λ listed. listed) set params classes

abbrev pub unlisted_classes : Treatment → ℕ → List Parameter → List Class → List Class
unlisted_classes (whole n) set params classes = []
unlisted_classes _ set params classes = those_of (λ listed. not listed) set params classes

-- the abstract type of a set type in a case
abbrev pub type_in : Treatment → ℕ → List Parameter → List Class → AbsType
type_in t set params classes = abstract_type t (used (named_among (listed_classes t set params classes)))

-- the parameters of a set type have classes that the rules allow
abbrev pub is_allowed : Treatment → ℕ → List Parameter → List Class → Bool
is_allowed t set params classes =
    are_named (listed_classes t set params classes) && (is_orderly t (named_among (listed_classes t set params classes))
    && list_all (is_of (type_in t set params classes)) (unlisted_classes t set params classes))

-- what a parameter may be, whatever the others are: named classes first
abbrev pub candidates : List Treatment → ℕ → Simple → List Class
candidates treatments count (Range low high) = map Number (numbers_from low (high + 1 - low))
candidates treatments count (Enum list) = []
candidates treatments count (Set set) = map Named (numbers_from 0 count) ++ map Rest (numbers_from 0 (count + 1))

-- each set type by its number
abbrev pub numbered : ℕ → List Treatment → List (ℕ × Treatment)
numbered k [] = []
numbered k (t ∷ more) = (k, t) ∷ numbered (k + 1) more

-- the cases in their order: named classes first and rests last, from the first parameter on
abbrev pub cases : List Treatment → List Parameter → List (List Class)
cases treatments params =
    filter (λ classes. list_all (λ (set, t). is_allowed t set params classes) (numbered 0 treatments))
    (one_of_each (map (λ p. candidates treatments (length params) p.over) params))
