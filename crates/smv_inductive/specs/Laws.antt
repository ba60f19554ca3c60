-- What holds of every case.
use Rattle.std.specs.Prelude.{◌≡◌, ℕ, suc, ◌≤◌}
use Rattle.smv_rings.specs.Lists.{Lists, State, IsLists}
use Rattle.smv_rings.specs.Paths.{Violates, IsInductive}
use Rattle.smv_rings.specs.Schedule.{ring}

-- a ring that equals the next one is inductive, if there is no violating path of a length up to there
abbrev pub EqualRingsAreInductive : Type 0
EqualRingsAreInductive = (l : Lists) → IsLists l → (k : ℕ) → ring l (suc k) ≡ ring l k → ((j : ℕ) → j ≤ suc k → (s : State) → Violates l j s → ⊥) → IsInductive l (ring l k)
