-- Base definitions by their numbers.
use Rattle.std.specs.Prelude.{◌≡◌, ℕ, List, length, drop, filter, slice_get, slice_index_or}
use Rattle.smv_core.specs.declared.flat.Design.{Design}
use Rattle.law_obligations.specs.Outlines.{earliest, may_be_base, base_of}

-- the number of a family's base definition: how many definitions there are, where it has none
abbrev pub number_in : Design → List ℕ → ℕ → ℕ
number_in d bases family = slice_index_or bases family (length d.defs)

-- a number for each family, which is that of its base definition
pub record AreBases (d : Design) (bases : List ℕ) : Type 0 where
  pub room : length bases ≡ length d.families
  pub each : (family : ℕ) → slice_get d.defs (number_in d bases family) ≡ base_of d family

-- the same among the definitions from this place on
pub record AreBasesFrom (d : Design) (place : ℕ) (bases : List ℕ) : Type 0 where
  pub room : length bases ≡ length d.families
  pub each : (family : ℕ) → slice_get d.defs (number_in d bases family) ≡ earliest (filter (may_be_base d family (slice_get d.families family)) (drop place d.defs))
