-- What an assignment of bits is read as: an abstract state of a case.
use Rattle.std.specs.Prelude.{◌≡◌, ℕ, ◌+◌, ◌<◌, List, [], ◌∷◌, length, find, slice_get, Option, Some, None, Bool, nat_lt}
use Rattle.std.specs.List.{list_all}
use Rattle.smv_core.specs.Values.{number}
use Rattle.smv_core.specs.declared.flat.Family.{Family}
use Rattle.smv_core.specs.declared.flat.Def.{Def}
use Rattle.law_obligations.specs.Sets.{Has}
use Rattle.law_obligations.specs.Places.{Place, named, World, places_in}
use Rattle.law_obligations.specs.May.{AbsState}
use Rattle.law_obligations.specs.Obligations.{defined, AbstractProblem}
use Rattle.law_obligations.specs.Cones.{AbsElement, element, same_element, kept}
use Rattle.law_obligations.specs.Bits.{Bits}
use Rattle.law_obligations.specs.Codes.{bits_for, code_from, value_of_code}

-- a problem with the elements of its cone, in order
pub record PosedCase : Type 0 where
  pub problem : AbstractProblem
  pub elements : List AbsElement

module _ (w : World) where
  abbrev pub values_in : Option Family → List Place
  values_in (Some f) = places_in w f.value
  values_in None = []

  -- the abstract values of an element, in order: numbers from the least, constants, classes, and then rests
  abbrev pub values_of : AbsElement → List Place
  values_of x = values_in (slice_get w.classes.families x.family)

  abbrev pub bits_of : AbsElement → ℕ
  bits_of x = bits_for (length (values_of x))

-- an element and its highest bit
pub record Slot : Type 0 where
  pub element : AbsElement
  pub bit : ℕ

-- the elements one after the other
abbrev pub slots_from : World → ℕ → List AbsElement → List Slot
slots_from w b [] = []
slots_from w b (x ∷ elements) = record { element = x; bit = b } ∷ slots_from w (b + bits_of w x) elements

-- how many bits they have together
abbrev pub bits_of_all : World → List AbsElement → ℕ
bits_of_all w [] = 0
bits_of_all w (x ∷ elements) = bits_of w x + bits_of_all w elements

module _ (w : World) (s : Bits) where
  abbrev pub code_of : Slot → ℕ
  code_of slot = code_from s slot.bit (bits_of w slot.element)

  -- the code of an element is that of a value
  abbrev pub is_value : Slot → Bool
  is_value slot = nat_lt (code_of slot) (length (values_of w slot.element))

  -- what stands at a slot; elsewhere 0, which nothing reads
  abbrev pub read_at : Option Slot → Place
  read_at (Some slot) = value_of_code (values_of w slot.element) (code_of slot)
  read_at None = named (number 0)

module _ (c : PosedCase) where
  abbrev pub slots : List Slot
  slots = slots_from c.problem.world 0 c.elements

  -- the state bits of the case
  abbrev pub state_bits : ℕ
  state_bits = bits_of_all c.problem.world c.elements

  -- each code is that of a value
  unfoldable pub are_values : Bits → Bool
  are_values s = list_all (is_value c.problem.world s) slots

  -- the abstract state that an assignment of the state bits is read as
  unfoldable pub reading : Bits → AbsState
  reading s family indexes = read_at c.problem.world s (find (λ slot. same_element (element family indexes) slot.element) slots)

  -- The elements are what is kept, each is of a family whose type has a value, and what a demand defines is one of them.
  pub record IsCase : Type 0 where
    pub are_kept : c.problem.kept ≡ kept c.elements
    pub have_values : (x : AbsElement) → Has c.elements x → (f : Family) × (slice_get c.problem.world.classes.families x.family ≡ Some f) × (0 < length (places_in c.problem.world f.value))
    pub now_is_kept : (def : Def) (indexes : List Place) → Has c.problem.now (defined def indexes) → Has c.elements (element def.family indexes)
    pub before_is_kept : (def : Def) (indexes : List Place) → Has c.problem.before (defined def indexes) → Has c.elements (element def.family indexes)
