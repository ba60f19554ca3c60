-- Splits that wait to be met on a walk over all that a unit leads to.
use Rattle.std.specs.Prelude.{ℕ, zero, suc, List, [], map, flat_map, length, slice_get, option_to_list}
use Rattle.smv_core.specs.Values.{Name}
use Rattle.smv_core.specs.declared.flat.Design.{Design}
use Rattle.smv_core.specs.declared.flat.FlatSplit.{FlatSplit}
use Rattle.smv_core.specs.declared.flat.Unit.{Unit}
use Rattle.law_obligations.specs.Outlines.{unit_in}
use Rattle.law_splits.specs.Leaves.{name_of, splits_of}
use Rattle.law_splits.specs.Chains.{shown, unit_types}
use Rattle.smv_split_faults.specs.declared.mismatches.Waiting.{Waiting}

-- a split, how many parameters stand before it, and how many splits at most are followed behind it
pub record Wait : Type 0 where
  pub split : FlatSplit
  pub known : ℕ
  pub left : ℕ

abbrev pub held : Waiting → Wait
held w = record { split = w.split.now; known = w.known; left = w.left }

abbrev pub waits : ℕ → ℕ → FlatSplit → Wait
waits known left s = record { split = s; known = known; left = left }

-- the splits with these numbers
abbrev pub splits_at : List FlatSplit → List ℕ → List FlatSplit
splits_at splits numbers = flat_map (λ k. option_to_list (slice_get splits k)) numbers

-- the splits of what has a name, behind so many parameters, where so many are followed
abbrev pub following : Design → ℕ → ℕ → Name → List Wait
following d known zero name = []
following d known (suc left) name = map (waits known left) (splits_of d name)

-- what all splits that a unit leads to show of the parameters before them
abbrev pub shown_of_unit : Design → Unit → List ℕ
shown_of_unit d unit = shown d (length d.splits) (name_of d (unit_in d unit)) (unit_types d (unit_in d unit))
