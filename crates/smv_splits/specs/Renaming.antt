-- Renamed expressions under a name that stays closed, so that laws can speak of each constructor, and of what stands in lists inside them.
use Rattle.std.specs.Prelude.{ℕ, ◌+◌, ◌-◌, length, slice_get, unwrap_or}
use Rattle.smv_core.specs.declared.flat.FlatExpr.{FlatExpr}
use Rattle.smv_core.specs.declared.flat.FlatSigned.{FlatSigned, roll-FlatSigned, out-FlatSigned}
use Rattle.smv_core.specs.declared.flat.FlatMember.{FlatMember, One, Span as SpanOf}
use Rattle.law_splits.specs.Variables.{renamed}
use Rattle.smv_splits.specs.declared.numbers.Numbers.{Numbers}

-- an expression
unfoldable pub renaming : (ℕ → ℕ) → FlatExpr → FlatExpr
renaming number e = renamed number e

module _ (number : ℕ → ℕ) where
  -- what a sum adds or takes away
  abbrev pub renaming_signed : FlatSigned → FlatSigned
  renaming_signed x = roll-FlatSigned (record { minus = (out-FlatSigned x).minus; of = renaming number (out-FlatSigned x).of })

  -- a member of a listed set
  abbrev pub renaming_member : FlatMember → FlatMember
  renaming_member (One e) = One (renaming number e)
  renaming_member (SpanOf span at) = SpanOf span at

-- the number of a variable: the given one of each of the first, and of the others, in their order, the numbers from a count on
abbrev pub number_by : Numbers → ℕ → ℕ
number_by numbers var = unwrap_or (slice_get numbers.given.now var) (numbers.count + (var - length numbers.given.now))
