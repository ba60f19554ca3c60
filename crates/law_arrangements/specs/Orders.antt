-- Orders of all bits of a case, and the arrangements over one: with no element without bits, and with elements that are worked out.
use Rattle.std.specs.Prelude.{◌≡◌, ℕ, ◌<◌, List, [], length, get_or, Some, nat_eq}
use Rattle.std.specs.List.Sorted.{IsPermutation}
use Rattle.smv_core.specs.Values.{numbers_from}
use Rattle.law_obligations.specs.Sets.{Has}
use Rattle.law_obligations.specs.Outlines.{place_of}
use Rattle.law_obligations.specs.Readings.{PosedCase, state_bits}
use Rattle.law_obligations.specs.Cones.{AbsElement}
use Rattle.law_arrangements.specs.Arrangements.{Arrangement, IsArrangement}

-- each of so many bits stands in it exactly once
abbrev pub IsOrder : ℕ → List ℕ → Type 0
IsOrder bits order = IsPermutation (numbers_from 0 bits) order

-- the arrangement in which each element has bits, and they stand in this order
abbrev pub arranged : List ℕ → Arrangement
arranged order = record { determined = []; idle = []; order = order }

-- the arrangement in which these elements are worked out, one after the other, and the bits of all elements stand in this order
abbrev pub wired : List ℕ → List AbsElement → Arrangement
wired order done = record { determined = done; idle = []; order = order }

-- an order has as many places as there are bits
abbrev pub OrdersAreLong : Type 0
OrdersAreLong = (bits : ℕ) (order : List ℕ) → IsOrder bits order → length order ≡ bits

-- each bit has a place
abbrev pub OrdersHaveEach : Type 0
OrdersHaveEach = (bits : ℕ) (order : List ℕ) → IsOrder bits order → (b : ℕ) → b < bits → Has order b

-- at each place stands a bit that has this place
abbrev pub PlacesAreOwn : Type 0
PlacesAreOwn = (bits : ℕ) (order : List ℕ) → IsOrder bits order → (k : ℕ) → k < bits → (get_or order k 0 < bits) × (place_of (nat_eq (get_or order k 0)) order ≡ Some k)

-- the order of declarations is one
abbrev pub DeclaredIsOrder : Type 0
DeclaredIsOrder = (bits : ℕ) → IsOrder bits (numbers_from 0 bits)

-- over whatever order of its bits a case has an arrangement
abbrev pub OrdersAreArrangements : Type 0
OrdersAreArrangements = (c : PosedCase) (order : List ℕ) → IsOrder (state_bits c) order → IsArrangement c (arranged order)
