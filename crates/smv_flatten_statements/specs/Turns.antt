-- The turns of a `for`, from one of them on.
use Rattle.std.specs.Prelude.{ℕ, ◌+◌, ◌*◌, List, map, filter, Bool, ◌&&◌, ◌||◌, nat_lt, nat_eq}
use Rattle.smv_core.specs.Values.{numbers_from}

-- whether a number is before the end of a `for`
abbrev pub is_turn : ℕ → Bool → ℕ → Bool
is_turn to closed n = nat_lt n to || (closed && nat_eq n to)

-- the turns among this many numbers, from this number on
unfoldable pub turns_from : ℕ → Bool → ℕ → ℕ → ℕ → List ℕ
turns_from to closed step n count = filter (is_turn to closed) (map (λ k. n + k * step) (numbers_from 0 count))
