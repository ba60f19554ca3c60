-- Sizes as they are given with a command, and what a unit is refused for at them. Begin at the end: `sizes_fault` has the order.
use Rattle.std.specs.Prelude.{ℕ, suc, ◌*◌, List, [], ◌∷◌, map, length, Option, Some, None, ◌||◌, if◌then◌else◌, nat_eq, nat_lt}
use Rattle.std.specs.List.{list_any}
use Rattle.smv_core.specs.Values.{Sizes}
use Rattle.smv_core.specs.FlatMeaning.{Numbered, values_in}
use Rattle.smv_core.specs.declared.fault.Fault.{Fault}
use Rattle.smv_core.specs.declared.flat.SetInfo.{SetInfo}
use Rattle.smv_core.specs.declared.flat.Family.{Family}
use Rattle.smv_core.specs.declared.flat.Class.{Class}
use Rattle.smv_core.specs.declared.flat.Design.{Design}
use Rattle.smv_core.specs.declared.flat.Unit.{Unit}
use Rattle.law_obligations.specs.Covers.{by_name}
use Rattle.law_obligations.specs.Soundness.{params_of}
use Rattle.law_obligations.specs.Outlines.{unit_in}
use Rattle.law_obligations.specs.Readings.{bits_of_all}
use Rattle.law_exact.specs.Exact.{whole_world}
use Rattle.law_problems.specs.Parts.{place_of_unit}
use Rattle.smv_mentions.specs.FirstFault.{or_else}
use Rattle.law_concrete.specs.Concrete.{sized, concrete_cases, concrete_places, concrete_cone}

-- the size of a set type: the one that is declared, or the next of those that are given
abbrev pub next_size : Option ℕ → List ℕ → ℕ
next_size (Some n) given = n
next_size None [] = 0
next_size None (k ∷ given) = k

abbrev pub given_after : Option ℕ → List ℕ → List ℕ
given_after (Some n) given = given
given_after None [] = []
given_after None (k ∷ given) = given

-- of each set type, in the order of declaration
abbrev pub size_list : List SetInfo → List ℕ → List ℕ
size_list [] given = []
size_list (info ∷ sets) given = next_size info.size given ∷ size_list sets (given_after info.size given)

-- the size of the set type of this name
abbrev pub sizes_at : List SetInfo → List ℕ → Sizes
sizes_at sets given = by_name 0 sets (size_list sets given)

-- how many set types have no size of their own
abbrev pub undeclared : List SetInfo → ℕ
undeclared [] = 0
undeclared (info ∷ sets) = one_more info.size (undeclared sets)
  where
    one_more : Option ℕ → ℕ → ℕ
    one_more (Some n) k = k
    one_more None k = suc k

-- how many elements a family has
abbrev pub product : List ℕ → ℕ
product [] = 1
product (k ∷ ks) = k * product ks

abbrev pub element_count : Numbered → Family → ℕ
element_count n f = product (map (λ t. length (values_in n t)) f.over)

module _ (d : Design) (unit : Unit) (given : List ℕ) where
  abbrev pub sizes : Sizes
  sizes = sizes_at d.sets given

  abbrev pub at_unit : ℕ → Fault
  at_unit number = record { number = number; at = place_of_unit (unit_in d unit) }

  -- another number of sizes than there are set types without one
  abbrev pub number_fault : Option Fault
  number_fault = if nat_eq (length given) (undeclared d.sets) then None else Some (record { number = 34; at = 0 })

  -- a family with more than 256 elements
  abbrev pub wide_fault : Option Fault
  wide_fault = if list_any (λ f. nat_lt 256 (element_count (sized d sizes) f)) d.families then Some (at_unit 35) else None

  -- more than 8 parameters, or more than 4,096 cases
  abbrev pub many_fault : Option Fault
  many_fault = if nat_lt 8 (length (params_of (sized d sizes) (unit_in d unit))) || nat_lt 4096 (length (concrete_cases d sizes unit)) then Some (at_unit 29) else None

  -- a case with more than 1,024 state bits
  abbrev pub case_bits : List Class → ℕ
  case_bits classes = bits_of_all (whole_world (sized d sizes)) (concrete_cone d sizes unit (concrete_places d sizes unit classes))

  abbrev pub case_fault : List Class → Option Fault
  case_fault classes = if nat_lt 1024 (case_bits classes) then Some (at_unit 30) else None

  -- so of some cases, and of all
  abbrev pub width_fault_of : List (List Class) → Option Fault
  width_fault_of cases = if list_any (λ classes. nat_lt 1024 (case_bits classes)) cases then Some (at_unit 30) else None

  abbrev pub width_fault : Option Fault
  width_fault = width_fault_of (concrete_cases d sizes unit)

  -- what the cases are refused for, and what the unit is
  abbrev pub cases_fault : Option Fault
  cases_fault = or_else number_fault (or_else wide_fault many_fault)

  abbrev pub sizes_fault : Option Fault
  sizes_fault = or_else cases_fault width_fault
