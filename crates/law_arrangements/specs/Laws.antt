-- The laws: what the crate's public functions say.
use Rattle.std.specs.Prelude.{◌≡◌, ◌↔◌, ℕ, zero, suc, ◌<◌, List, length, get_or, Some, None, Bool, ◌&&◌}
use Rattle.std.specs.List.{list_all}
use Rattle.bdd_ops.specs.Functions.{Function}
use Rattle.law_obligations.specs.May.{AbsState}
use Rattle.smv_rings.specs.Lists.{State, at, IsLists}
use Rattle.smv_rings.specs.Paths.{InRing, IsViolating, IsInductive}
use Rattle.law_events.specs.Events.{Event, IsFirstEvent}
use Rattle.law_events.specs.Events.Event.{Reached, Shut, Images}
use Rattle.law_obligations.specs.Places.{same_place}
use Rattle.law_obligations.specs.Bits.{Bits}
use Rattle.law_obligations.specs.Readings.{PosedCase, IsCase, reading}
use Rattle.law_obligations.specs.CasePaths.{IsViolatingPath, HasNone, IsShortest, IsInRing, IsInvariant, states_from}
use Rattle.law_reports.specs.CaseLists.{case_lists}
use Rattle.law_reports.specs.Verdicts.{IsSpent}
use Rattle.law_arrangements.specs.Arrangements.{Arrangement, AgreeBeside, IsArrangement, declared, view, settled}
use Rattle.law_arrangements.specs.ArrangedLists.{lists_over}

-- the declared arrangement is one, and the lists over it are the declared ones
abbrev pub DeclaredIsArrangement : Type 0
DeclaredIsArrangement = (c : PosedCase) → IsCase c → IsArrangement c (declared c)

abbrev pub DeclaredListsAreSame : Type 0
DeclaredListsAreSame = (c : PosedCase) → IsCase c → lists_over c (declared c) ≡ case_lists c

-- the lists of a case over an arrangement are over its places
abbrev pub ListsOverAreLists : Type 0
ListsOverAreLists = (c : PosedCase) (o : Arrangement) → IsLists (lists_over c o)

-- the states of a path that are shown: at each time what is read, with idle elements worked out behind the state before
abbrev pub shown_at : PosedCase → Arrangement → (ℕ → State) → ℕ → AbsState
shown_at c o path zero = settled c o None (view c o (path zero))
shown_at c o path (suc i) = settled c o (Some (shown_at c o path i)) (view c o (path (suc i)))

abbrev pub shown : PosedCase → Arrangement → (ℕ → State) → ℕ → List AbsState
shown c o path steps = states_from (shown_at c o path) 0 steps

-- a violating path over an arrangement is shown as one of the problem of the same length
abbrev pub PathsAreShown : Type 0
PathsAreShown = (c : PosedCase) → IsCase c → (o : Arrangement) → IsArrangement c o → (k : ℕ) (path : ℕ → State) → IsViolating (lists_over c o) k path → IsViolatingPath c.problem (shown c o path k)

-- and for each violating path of the problem there is one over the arrangement
abbrev pub PathsAreFound : Type 0
PathsAreFound = (c : PosedCase) → IsCase c → (o : Arrangement) → IsArrangement c o → (k : ℕ) (states : List AbsState) → length states ≡ suc k → IsViolatingPath c.problem states →
    (path : ℕ → State) × IsViolating (lists_over c o) k path

-- so a violating path of a length exists over an arrangement exactly where one exists over the declared lists
abbrev pub LengthsAreSame : Type 0
LengthsAreSame = (c : PosedCase) → IsCase c → (o : Arrangement) → IsArrangement c o → (k : ℕ) → ((path : ℕ → State) × IsViolating (lists_over c o) k path) ↔ ((path : ℕ → State) × IsViolating (case_lists c) k path)

-- where there is none over an arrangement, the problem has none
abbrev pub NoneIsNone : Type 0
NoneIsNone = (c : PosedCase) → IsCase c → (o : Arrangement) → IsArrangement c o → ((k : ℕ) (path : ℕ → State) → IsViolating (lists_over c o) k path → ⊥) → HasNone c.problem

-- where there is one of so many steps and none of fewer, what is shown is a shortest one of the problem
abbrev pub LeastIsLeast : Type 0
LeastIsLeast = (c : PosedCase) → IsCase c → (o : Arrangement) → IsArrangement c o → (k : ℕ) (path : ℕ → State) → IsViolating (lists_over c o) k path →
    ((j : ℕ) → j < k → (other : ℕ → State) → IsViolating (lists_over c o) j other → ⊥) → IsShortest c.problem k (shown c o path k)

-- a set that meets the four conditions of induction over an arrangement leaves no violating path
abbrev pub InductionHolds : Type 0
InductionHolds = (c : PosedCase) → IsCase c → (o : Arrangement) → IsArrangement c o → (set : Function) → IsInductive (lists_over c o) set → HasNone c.problem

-- an equal ring over an arrangement leaves the problem no violating path
abbrev pub ShutIsNone : Type 0
ShutIsNone = (c : PosedCase) → IsCase c → (o : Arrangement) → IsArrangement c o → (nodes steps k : ℕ) → IsFirstEvent (lists_over c o) nodes steps (Shut k) → HasNone c.problem

-- a path that is reached over an arrangement is as long as a shortest one of the problem
abbrev pub ReachedIsShortest : Type 0
ReachedIsShortest = (c : PosedCase) → IsCase c → (o : Arrangement) → IsArrangement c o → (nodes steps k : ℕ) → IsFirstEvent (lists_over c o) nodes steps (Reached k) →
    (path : List AbsState) × IsShortest c.problem k path

-- two events of which each decides a case, decide it alike: no path, or paths of the same length
abbrev pub DecideAlike : Event → Event → Type 0
DecideAlike (Reached j) (Reached k) = j ≡ k
DecideAlike (Reached j) (Shut k) = ⊥
DecideAlike (Shut j) (Reached k) = ⊥
DecideAlike _ _ = Unit {0}

-- so searches over an arrangement and over the declared lists decide alike, under whatever budgets
abbrev pub DecisionsAgree : Type 0
DecisionsAgree = (c : PosedCase) → IsCase c → (o : Arrangement) → IsArrangement c o → (nodes steps others images : ℕ) (v w : Event) →
    IsFirstEvent (lists_over c o) nodes steps v → IsFirstEvent (case_lists c) others images w → DecideAlike v w

-- the bits of a case at their places
abbrev pub gathered : Arrangement → Bits → State
gathered o t k = t (get_or o.order k 0)

-- what is read of the case's bits has each determined element where it is worked out
abbrev pub is_completed : PosedCase → Arrangement → Bits → Bool
is_completed c o t = list_all (λ x. same_place (reading c t x.family x.indexes) (view c o (gathered o t) x.family x.indexes)) o.determined

-- a set that is inductive over an arrangement is one of the case, taken where determined elements are what they are worked out to be
abbrev pub InductiveIsInvariant : Type 0
InductiveIsInvariant = (c : PosedCase) → IsCase c → (o : Arrangement) → IsArrangement c o → (set : Function) → IsInductive (lists_over c o) set → IsInvariant c (λ t. set (at (gathered o t)) && is_completed c o t)

-- a ring over an arrangement has what states of the same ring of the problem are, but at idle elements
abbrev pub RingsAreShown : Type 0
RingsAreShown = (c : PosedCase) → IsCase c → (o : Arrangement) → IsArrangement c o → (k : ℕ) (s : State) → InRing (lists_over c o) k s → (a : AbsState) × IsInRing c.problem k a × AgreeBeside o.idle (view c o s) a

-- and each state of a ring of the problem is so in the same ring over the arrangement
abbrev pub RingsAreFound : Type 0
RingsAreFound = (c : PosedCase) → IsCase c → (o : Arrangement) → IsArrangement c o → (k : ℕ) (a : AbsState) → IsInRing c.problem k a → (s : State) × InRing (lists_over c o) k s × AgreeBeside o.idle (view c o s) a

-- So where a ring over an arrangement has a state that another one has not, so it is with the rings of the problem: where steps are spent over an arrangement they are spent.
-- Idle elements may tell states apart that are one over an arrangement, so the other way round it is not so.
abbrev pub RingsDiffer : Type 0
RingsDiffer = (c : PosedCase) → IsCase c → (o : Arrangement) → IsArrangement c o → (k j : ℕ) (s : State) → InRing (lists_over c o) k s → (InRing (lists_over c o) j s → ⊥) →
    (a : AbsState) × IsInRing c.problem k a × (IsInRing c.problem j a → ⊥)

-- the steps of a case are spent where a search over an arrangement uses up its images
abbrev pub ImagesAreSpent : Type 0
ImagesAreSpent = (c : PosedCase) → IsCase c → (o : Arrangement) → IsArrangement c o → (nodes steps : ℕ) → IsFirstEvent (lists_over c o) nodes steps Images → IsSpent c steps
