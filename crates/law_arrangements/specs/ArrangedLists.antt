-- The lists of functions of a case over an arrangement: each function's value is that of the states that an assignment is read as; elements without bits have none.
use Rattle.std.specs.Prelude.{ℕ, List, ◌++◌, map, filter, length, Some, None, Bool, not, ◌&&◌}
use Rattle.std.specs.List.{list_any, list_all}
use Rattle.bdd_ops.specs.Functions.{Function}
use Rattle.law_obligations.specs.May.{AbsState}
use Rattle.law_obligations.specs.Obligations.{Demanded, is_met, obligation}
use Rattle.law_obligations.specs.Cones.{same_element}
use Rattle.law_obligations.specs.Readings.{PosedCase, Slot, is_value, slots}
use Rattle.smv_rings.specs.Lists.{Lists}
use Rattle.law_reports.specs.CaseLists.{current, next, defines, those_of, moving_first, claims, before_in_step}
use Rattle.law_arrangements.specs.Arrangements.{Arrangement, spread, view}

-- an element has bits
abbrev pub has_bits : Arrangement → Slot → Bool
has_bits o slot = not (list_any (same_element slot.element) (o.determined ++ o.idle))

-- a demand that defines no idle element
abbrev pub is_asked : Arrangement → Demanded → Bool
is_asked o demand = not (list_any (λ x. defines x demand) o.idle)

module _ (c : PosedCase) (o : Arrangement) where
  -- the states that an assignment is read as
  abbrev pub old_view : (ℕ → Bool) → AbsState
  old_view a = view c o (current a)

  abbrev pub new_view : (ℕ → Bool) → AbsState
  new_view a = view c o (next a)

  -- a demand is met at time 0, and at a later time
  abbrev pub met_first : Demanded → Function
  met_first demand a = is_met c.problem None (old_view a) demand

  abbrev pub met_step : Demanded → Function
  met_step demand a = is_met c.problem (Some (old_view a)) (new_view a) demand

  -- the element's code is a value, and its definition that holds now, if there is one, is met
  abbrev pub element_first : Slot → Function
  element_first slot a = is_value c.problem.world (spread o.order (current a)) slot && list_all (is_met c.problem None (old_view a)) (those_of c.problem.now slot.element)

  abbrev pub element_step : Slot → Function
  element_step slot a = is_value c.problem.world (spread o.order (next a)) slot && list_all (is_met c.problem (Some (old_view a)) (new_view a)) (those_of c.problem.now slot.element)

  -- the elements with bits
  abbrev pub slots_over : List Slot
  slots_over = filter (has_bits o) (slots c)

  -- N0, L0, T0, N1, L1, T1
  unfoldable pub lists_over : Lists
  lists_over = record {
    now_first = map element_first slots_over ++ map met_first (claims c c.problem.now);
    before_first = map met_first (filter (is_asked o) c.problem.before);
    broken_first = λ a. (obligation c.problem).broken None (old_view a);
    now_step = map element_step (moving_first c.problem.now slots_over) ++ map met_step (claims c c.problem.now);
    before_step = map met_step (filter (is_asked o) (before_in_step c));
    broken_step = λ a. (obligation c.problem).broken (Some (old_view a)) (new_view a);
    bits = length o.order;
  }
