-- What bits are read as, by a problem as it is written: by its families, the lengths of its enumerations and the abstract forms of its set types.
use Rattle.std.specs.Prelude.{◌≡◌, ◌≤◌, ℕ, zero, suc, ◌+◌, ◌-◌, List, [], ◌∷◌, ◌++◌, map, get_or, slice_get, slice_index_or, Option, Some, None, Bool, false}
use Rattle.std.specs.List.{All}
use Rattle.smv_core.specs.Values.{numbers_from}
use Rattle.smv_core.specs.declared.flat.Simple.{Simple}
use Rattle.smv_core.specs.declared.flat.Simple.TheVariants.{Range, Enum, Set}
use Rattle.smv_core.specs.declared.flat.Family.{Family}
use Rattle.smv_core.specs.declared.flat.Element.{Element}
use Rattle.smv_core.specs.declared.abstract_type.Rest.TheVariants.{Gaps}
use Rattle.smv_core.specs.declared.abstract_type.AbsType.{AbsType}
use Rattle.law_obligations.specs.Places.{rests_beside}
use Rattle.law_obligations.specs.Codes.{code_from}
use Rattle.smv_readings.specs.StateBits.{bits_of_family}
use Rattle.smv_problem.specs.declared.problem.AbsValue.{AbsValue}
use Rattle.smv_problem.specs.declared.problem.AbsValue.TheVariants.{Number, Constant, Named, Rest}
use Rattle.smv_problem.specs.declared.problem.AbsState.{AbsState}
use Rattle.smv_problem.specs.declared.problem.Problem.{Problem}

-- the assignment of these bits; bits that are not there are 0
abbrev pub bits_in : List Bool → ℕ → Bool
bits_in bits v = slice_index_or bits v false

-- the classes and rests of a set type, in order
abbrev pub values_beside : Option AbsType → List AbsValue
values_beside (Some t) = map Named (numbers_from 0 t.named) ++ map Rest (rests_beside t.rest t.named)
values_beside None = []

-- the abstract values of a type, in order
abbrev pub values_in : List ℕ → List AbsType → Simple → List AbsValue
values_in lists types (Range low high) = map Number (numbers_from low (high + 1 - low))
values_in lists types (Enum list) = map Constant (numbers_from 0 (get_or lists list 0))
values_in lists types (Set set) = values_beside (slice_get types set)

abbrev pub values_for : List ℕ → List AbsType → Option Family → List AbsValue
values_for lists types (Some f) = values_in lists types f.value
values_for lists types None = []

-- the value of a code: that at its position, and the last one for a code above the last
abbrev pub value_of : List AbsValue → ℕ → AbsValue
value_of [] code = Number 0
value_of (v ∷ []) code = v
value_of (v ∷ w ∷ values) zero = v
value_of (v ∷ w ∷ values) (suc code) = value_of (w ∷ values) code

module _ (families : List Family) (lists : List ℕ) (types : List AbsType) (s : ℕ → Bool) where
  -- the value of an element of a family whose highest bit is this one
  abbrev pub value_at : ℕ → ℕ → AbsValue
  value_at bit family = value_of (values_for lists types (slice_get families family)) (code_from s bit (bits_of_family families lists types family))

  -- the values of elements, one behind the other
  abbrev pub values_from : ℕ → List Element → List AbsValue
  values_from bit [] = []
  values_from bit (x ∷ elements) = value_at bit x.family ∷ values_from (bit + bits_of_family families lists types x.family) elements

-- the abstract state that an assignment of the state bits is read as
abbrev pub state_in : Problem → (ℕ → Bool) → AbsState
state_in p s = record { values = values_from p.families p.lists p.types s 0 p.elements }

-- the numbers of its classes and rests fit their fields
pub record IsNarrow (t : AbsType) : Type 0 where
  pub classes : t.named ≤ 256
  pub gaps : t.rest ≡ Gaps → t.named ≤ 255

abbrev pub AreNarrow : List AbsType → Type 0
AreNarrow types = All IsNarrow types
