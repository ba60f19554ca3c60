-- The lists of functions of a case, function by function, as truth tables over its current and next bits.
use Rattle.std.specs.Prelude.{◌≡◌, ℕ, ◌+◌, ◌*◌, List, ◌++◌, map, flat_map, filter, Some, None, Bool, true, false, not, ◌&&◌}
use Rattle.std.specs.List.{list_any, list_all}
use Rattle.bdd_ops.specs.Functions.{Function}
use Rattle.law_obligations.specs.Demands.{concerns_place}
use Rattle.law_obligations.specs.May.{AbsState}
use Rattle.law_obligations.specs.Obligations.{Demanded, defined, holds, is_met, obligation}
use Rattle.law_obligations.specs.Cones.{AbsElement, element, same_element}
use Rattle.smv_rings.specs.Lists.{Lists, State}
use Rattle.law_obligations.specs.Readings.{PosedCase, Slot, is_value, slots, state_bits, reading}

-- the current and the next bits of an assignment
abbrev pub current : (ℕ → Bool) → State
current a b = a (2 * b)

abbrev pub next : (ℕ → Bool) → State
next a b = a (2 * b + 1)

-- a demand is that of the definition of this element
abbrev pub defines : AbsElement → Demanded → Bool
defines x (defined def indexes) = same_element x (element def.family indexes)
defines x (holds body b) = false

-- a demand is an instance of a claim
abbrev pub is_claim : Demanded → Bool
is_claim (defined def indexes) = false
is_claim (holds body b) = true

-- some `next` of the definition concerns the element
abbrev pub is_by_next : Demanded → Bool
is_by_next (defined def indexes) = concerns_place def.next indexes
is_by_next (holds body b) = false

-- the definitions of an element among these demands
abbrev pub those_of : List Demanded → AbsElement → List Demanded
those_of demands x = filter (defines x) demands

-- the elements that some of these demands defines by `next`, and then the others
abbrev pub moves : List Demanded → Slot → Bool
moves demands slot = list_any is_by_next (those_of demands slot.element)

abbrev pub moving_first : List Demanded → List Slot → List Slot
moving_first demands slots = filter (moves demands) slots ++ filter (λ slot. not (moves demands slot)) slots

module _ (c : PosedCase) where
  -- the states that an assignment is read as
  abbrev pub old_state : (ℕ → Bool) → AbsState
  old_state a = reading c (current a)

  abbrev pub new_state : (ℕ → Bool) → AbsState
  new_state a = reading c (next a)

  -- a demand is met at time 0, in the state of the current bits; and at a later time, in that of the next bits behind that of the current ones
  abbrev pub met_first : Demanded → Function
  met_first demand a = is_met c.problem None (old_state a) demand

  abbrev pub met_step : Demanded → Function
  met_step demand a = is_met c.problem (Some (old_state a)) (new_state a) demand

  -- the element's code is a value, and its definition that holds now, if there is one, is met
  abbrev pub element_first : Slot → Function
  element_first slot a = is_value c.problem.world (current a) slot && list_all (is_met c.problem None (old_state a)) (those_of c.problem.now slot.element)

  abbrev pub element_step : Slot → Function
  element_step slot a = is_value c.problem.world (next a) slot && list_all (is_met c.problem (Some (old_state a)) (new_state a)) (those_of c.problem.now slot.element)

  abbrev pub claims : List Demanded → List Demanded
  claims demands = filter is_claim demands

  -- the demands that hold before, as they stand, and those of elements that move first
  abbrev pub before_in_step : List Demanded
  before_in_step = flat_map (λ slot. those_of c.problem.before slot.element) (moving_first c.problem.before (slots c)) ++ claims c.problem.before

  -- N0, L0, T0, N1, L1, T1
  unfoldable pub case_lists : Lists
  case_lists = record {
    now_first = map element_first (slots c) ++ map met_first (claims c.problem.now);
    before_first = map met_first c.problem.before;
    broken_first = λ a. (obligation c.problem).broken None (old_state a);
    now_step = map element_step (moving_first c.problem.now (slots c)) ++ map met_step (claims c.problem.now);
    before_step = map met_step before_in_step;
    broken_step = λ a. (obligation c.problem).broken (Some (old_state a)) (new_state a);
    bits = state_bits c;
  }

  -- so are these lists those of the case
  abbrev pub IsListsOf : Lists → Type 0
  IsListsOf l = l ≡ case_lists
