-- What holds of every case.
use Rattle.std.specs.Prelude.{◌≡◌, ◌≢◌, ◌↔◌, ℕ, suc, ◌^◌, ◌<◌, ◌≤◌, Bool, true, false}
use Rattle.bdd_ops.specs.Functions.{Function}
use Rattle.smv_rings.specs.Lists.{Lists, State, at, IsLists}
use Rattle.smv_rings.specs.Paths.{InRing, Violates, IsViolating, IsInductive}
use Rattle.smv_rings.specs.Schedule.{ring}

-- the rings of the schedule are the rings of paths
abbrev pub AreRings : Type 0
AreRings = (l : Lists) → IsLists l → (k : ℕ) (s : State) → (ring l k (at s) ≡ true) ↔ InRing l k s

abbrev pub RingsGrow : Type 0
RingsGrow = (l : Lists) (k : ℕ) (a : ℕ → Bool) → ring l k a ≡ true → ring l (suc k) a ≡ true

-- behind an equal ring there is no violating path that was not there before
abbrev pub EqualRingsEnd : Type 0
EqualRingsEnd = (l : Lists) → IsLists l → (k : ℕ) → ring l (suc k) ≡ ring l k → ((j : ℕ) → j ≤ suc k → (s : State) → Violates l j s → ⊥)
    → (j : ℕ) (s : State) → Violates l j s → ⊥

-- rings that differ, each from the next, are fewer than states
abbrev pub FewRingsDiffer : Type 0
FewRingsDiffer = (l : Lists) → IsLists l → (n : ℕ) → ((k : ℕ) → k < n → ring l (suc k) ≢ ring l k) → n < 2 ^ l.bits

-- a violating path of least length passes through the rings: at each time it is in the next one for the first time
abbrev pub LeastPathsPass : Type 0
LeastPathsPass = (l : Lists) → IsLists l → (k : ℕ) (path : ℕ → State) → IsViolating l k path → ((j : ℕ) → j < k → (s : State) → Violates l j s → ⊥)
    → (i : ℕ) → i < k → (ring l i (at (path i)) ≡ true) × ((j : ℕ) → j < i → ring l j (at (path i)) ≡ false)

-- what is said of the last state of a violating path is said of its list of states
abbrev pub PathsViolate : Type 0
PathsViolate = (l : Lists) (k : ℕ) (s : State) → Violates l k s ↔ ((path : ℕ → State) × IsViolating l k path × (path k ≡ s))

-- an inductive set leaves no violating path of any length
abbrev pub InductiveSetsHold : Type 0
InductiveSetsHold = (l : Lists) (set : Function) → IsInductive l set → (k : ℕ) (s : State) → Violates l k s → ⊥
