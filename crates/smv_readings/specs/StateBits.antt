-- The bits of a problem as it is written, by its families, the lengths of its enumerations and the abstract forms of its set types.
use Rattle.std.specs.Prelude.{ℕ, ◌+◌, ◌-◌, List, [], ◌∷◌, length, get_or, slice_get, Option, Some, None}
use Rattle.smv_core.specs.declared.flat.Simple.{Simple}
use Rattle.smv_core.specs.declared.flat.Simple.TheVariants.{Range, Enum, Set}
use Rattle.smv_core.specs.declared.flat.Family.{Family}
use Rattle.smv_core.specs.declared.flat.Element.{Element}
use Rattle.smv_core.specs.declared.abstract_type.AbsType.{AbsType}
use Rattle.law_obligations.specs.Places.{rests_beside}
use Rattle.law_obligations.specs.Codes.{bits_for}
use Rattle.smv_problem.specs.declared.problem.Problem.{Problem}

-- how many classes and rests a set type has; one that is not there has none
abbrev pub count_of : Option AbsType → ℕ
count_of (Some t) = t.named + length (rests_beside t.rest t.named)
count_of None = 0

-- how many abstract values a type has
abbrev pub count_in : List ℕ → List AbsType → Simple → ℕ
count_in lists types (Range low high) = high + 1 - low
count_in lists types (Enum list) = get_or lists list 0
count_in lists types (Set set) = count_of (slice_get types set)

-- and that of a family; one that is not there has none
abbrev pub count_for : List ℕ → List AbsType → Option Family → ℕ
count_for lists types (Some f) = count_in lists types f.value
count_for lists types None = 0

abbrev pub bits_of_family : List Family → List ℕ → List AbsType → ℕ → ℕ
bits_of_family families lists types family = bits_for (count_for lists types (slice_get families family))

-- the bits of these elements together
abbrev pub bits_of_elements : List Family → List ℕ → List AbsType → List Element → ℕ
bits_of_elements families lists types [] = 0
bits_of_elements families lists types (x ∷ elements) = bits_of_family families lists types x.family + bits_of_elements families lists types elements

-- the bits of a problem
abbrev pub bits_in : Problem → ℕ
bits_in p = bits_of_elements p.families p.lists p.types p.elements
