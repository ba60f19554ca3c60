-- Values as they are written: when a place is of a kind, and how written values compare.
use Rattle.std.specs.Prelude.{◌≡◌, ℕ, List, [], ◌∷◌, get_or, slice_get, Some, None, Bool, true, false, not, if◌then◌else◌, nat_eq, nat_lt}
use Rattle.smv_core.specs.Values.{Name, Value, number, constant, scalar, ordinal, Truth}
use Rattle.smv_core.specs.FlatMeaning.{Numbered}
use Rattle.smv_core.specs.declared.flat.SetInfo.{SetInfo}
use Rattle.law_obligations.specs.Sets.{Has}
use Rattle.law_obligations.specs.Places.{Place, named, rest, unsure}
use Rattle.law_designs.specs.FlatKinds.{FlatKind, enumeration, set_type}
use Rattle.law_designs.specs.FlatKinds as kind
use Rattle.smv_problem.specs.declared.problem.AbsValue.{AbsValue}
use Rattle.smv_problem.specs.declared.problem.AbsValue.TheVariants.{Number, Constant, Named, Rest, Undefined}

-- the value of a set type by its number
abbrev pub value_in : SetInfo → ℕ → Value
value_in info m = if info.ordered then ordinal info.name m else scalar info.name m

-- a place of a kind: a number, a constant of the enumeration, or a class or a rest of the set type
pub data IsPlaceOf (n : Numbered) : FlatKind → Place → Type 0 where
  a_number : (k : ℕ) → IsPlaceOf n kind.number (named (number k))
  a_constant : (list : ℕ) (name : Name) → Has (get_or n.enums list []) name → IsPlaceOf n (enumeration list) (named (constant name))
  a_class : (set : ℕ) (info : SetInfo) → slice_get n.sets set ≡ Some info → (m : ℕ) → IsPlaceOf n (set_type set) (named (value_in info m))
  a_rest : (set : ℕ) (info : SetInfo) → slice_get n.sets set ≡ Some info → (g : ℕ) → IsPlaceOf n (set_type set) (rest (value_in info g))

-- written values that are the same
abbrev pub same_value : AbsValue → AbsValue → Bool
same_value (Number k) (Number l) = nat_eq k l
same_value (Constant k) (Constant l) = nat_eq k l
same_value (Named k) (Named l) = nat_eq k l
same_value (Rest g) (Rest h) = nat_eq g h
same_value _ _ = false

-- `=`: only a rest with itself is not known
abbrev pub equal_values : AbsValue → AbsValue → List Truth
equal_values Undefined w = None ∷ []
equal_values v Undefined = None ∷ []
equal_values (Rest g) (Rest h) = if nat_eq g h then unsure (Some true) else Some false ∷ []
equal_values v w = Some (same_value v w) ∷ []

-- `<`: a gap lies below the class of its number; only a gap with itself is not known
abbrev pub below_values : AbsValue → AbsValue → List Truth
below_values (Number k) (Number l) = Some (nat_lt k l) ∷ []
below_values (Named k) (Named l) = Some (nat_lt k l) ∷ []
below_values (Named k) (Rest g) = Some (nat_lt k g) ∷ []
below_values (Rest g) (Named k) = Some (not (nat_lt k g)) ∷ []
below_values (Rest g) (Rest h) = if nat_eq g h then unsure (Some (nat_lt g h)) else Some (nat_lt g h) ∷ []
below_values _ _ = None ∷ []
