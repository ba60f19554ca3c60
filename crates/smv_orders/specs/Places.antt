-- The places of bits in an order.
use Rattle.std.specs.Prelude.{◌≡◌, ℕ, suc, List, [], ◌∷◌, Some, nat_eq}
use Rattle.law_obligations.specs.Outlines.{place_of}

-- bit after bit, from one on, these are their places in an order
abbrev pub ArePlaces : List ℕ → ℕ → List ℕ → Type 0
ArePlaces order bit [] = Unit {0}
ArePlaces order bit (p ∷ places) = (place_of (nat_eq bit) order ≡ Some p) × ArePlaces order (suc bit) places
