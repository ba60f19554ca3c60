-- The laws: what the crate's public functions say.
use Rattle.std.specs.Prelude.{◌≡◌, ◌↔◌, ℕ, suc, ◌<◌, List, length, Bool, true}
use Rattle.bdd_ops.specs.Functions.{Function}
use Rattle.law_obligations.specs.May.{AbsState}
use Rattle.smv_rings.specs.Lists.{State, at, IsLists}
use Rattle.smv_rings.specs.Paths.{InRing, IsViolating, IsInductive}
use Rattle.law_obligations.specs.Readings.{PosedCase, IsCase, are_values, reading}
use Rattle.law_reports.specs.CaseLists.{case_lists}
use Rattle.law_obligations.specs.CasePaths.{IsViolatingPath, HasNone, IsShortest, IsInRing, IsInvariant, states_from}

-- the lists of a case are over its bits
abbrev pub CaseListsAreLists : Type 0
CaseListsAreLists = (c : PosedCase) → IsLists (case_lists c)

-- what the states of a path of so many steps are read as
abbrev pub readings : PosedCase → (ℕ → State) → ℕ → List AbsState
readings c path steps = states_from (λ i. reading c (path i)) 0 steps

-- a violating path of the lists is read as one of the problem of the same length
abbrev pub PathsAreRead : Type 0
PathsAreRead = (c : PosedCase) → IsCase c → (k : ℕ) (path : ℕ → State) → IsViolating (case_lists c) k path → IsViolatingPath c.problem (readings c path k)

-- and each violating path of the problem is read from one of the lists
abbrev pub PathsAreWritten : Type 0
PathsAreWritten = (c : PosedCase) → IsCase c → (k : ℕ) (states : List AbsState) → length states ≡ suc k → IsViolatingPath c.problem states →
    (path : ℕ → State) × IsViolating (case_lists c) k path × (readings c path k ≡ states)

-- ring k of the lists has the assignments whose codes are values and that are read as states of ring k of the problem
abbrev pub RingsAreRead : Type 0
RingsAreRead = (c : PosedCase) → IsCase c → (k : ℕ) (s : State) → InRing (case_lists c) k s ↔ ((are_values c s ≡ true) × IsInRing c.problem k (reading c s))

-- the four conditions of induction over the lists are those of the case
abbrev pub InductionIsOfCases : Type 0
InductionIsOfCases = (c : PosedCase) → IsCase c → (set : Function) → IsInductive (case_lists c) set ↔ IsInvariant c (λ s. set (at s))

-- a set that meets them leaves no violating path
abbrev pub InvariantsHold : Type 0
InvariantsHold = (c : PosedCase) → IsCase c → (set : State → Bool) → IsInvariant c set → HasNone c.problem

-- where the lists have no violating path, neither has the problem
abbrev pub NoneIsNone : Type 0
NoneIsNone = (c : PosedCase) → IsCase c → ((k : ℕ) (path : ℕ → State) → IsViolating (case_lists c) k path → ⊥) → HasNone c.problem

-- where the lists have a violating path of so many steps and none of fewer, the path that is read is a shortest one of the problem
abbrev pub LeastIsLeast : Type 0
LeastIsLeast = (c : PosedCase) → IsCase c → (k : ℕ) (path : ℕ → State) → IsViolating (case_lists c) k path → ((j : ℕ) → j < k → (other : ℕ → State) → IsViolating (case_lists c) j other → ⊥) →
    IsShortest c.problem k (readings c path k)
