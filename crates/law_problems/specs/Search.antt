-- A search for all that is reached: which members are found so far, and from how many of them it has gone on.
use Rattle.std.specs.Prelude.{◌≡◌, ◌<◌, ℕ, List, slice_get, Some}
use Rattle.law_obligations.specs.Sets.{Has}

-- Found are those with which it begins, nothing that is not of the set, and with each of the first of them all that follows it.
pub record IsSearch {X : Type 0} (next : X → List X) (from set found : List X) (turn : ℕ) : Type 0 where
  pub begins : (x : X) → Has from x → Has found x
  pub within : (x : X) → Has found x → Has set x
  pub closed : (k : ℕ) (x : X) → k < turn → slice_get found k ≡ Some x → (y : X) → Has (next x) y → Has found y
