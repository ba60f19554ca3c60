-- Products of counts, within a limit.
use Rattle.std.specs.Prelude.{◌≡◌, ◌≤◌, ◌<◌, ℕ, List, Option, Some, None}
use Rattle.law_concrete.specs.Sizes.{product}

-- a number, where it is within a limit, and none where it is above
abbrev pub IsWithin : ℕ → ℕ → Option ℕ → Type 0
IsWithin limit number (Some n) = (n ≡ number) × (n ≤ limit)
IsWithin limit number None = limit < number

-- so the product of some counts
abbrev pub IsProduct : ℕ → List ℕ → Option ℕ → Type 0
IsProduct limit counts o = IsWithin limit (product counts) o

-- nothing, if it is nothing
abbrev pub IsBeyond : ℕ → Option ℕ → Type 0
IsBeyond first (Some n) = (n ≡ 0) × (first ≡ 0)
IsBeyond first None = 1 ≤ first
