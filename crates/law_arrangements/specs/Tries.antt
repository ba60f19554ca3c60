-- What may be told of a case that is tried over more than one arrangement (`MayBeTold` of `law_reports`): what a try finds, unless it is that its budget of nodes is passed.
use Rattle.std.specs.Prelude.{◌≡◌, ℕ, Bool, true, false}
use Rattle.law_events.specs.Events.{Event, IsFirstEvent}
use Rattle.law_events.specs.Events.Event.{Counted, Reached, Shut}
use Rattle.law_obligations.specs.Readings.{PosedCase, IsCase}
use Rattle.law_reports.specs.CaseLists.{case_lists}
use Rattle.law_reports.specs.Verdicts.{MayBeTold, is_undecided}
use Rattle.law_arrangements.specs.Arrangements.{Arrangement, IsArrangement}
use Rattle.law_arrangements.specs.ArrangedLists.{lists_over}

abbrev pub is_counted : Event → Bool
is_counted (Counted n) = true
is_counted _ = false

-- what a search over an arrangement finds, under whatever budget of nodes, may be told, unless it is that this budget is passed
abbrev pub TriesMayBeTold : Type 0
TriesMayBeTold = (c : PosedCase) → IsCase c → (o : Arrangement) → IsArrangement c o → (nodes part steps : ℕ) (v : Event) → is_counted v ≡ false →
    IsFirstEvent (lists_over c o) part steps v → MayBeTold nodes steps c v

-- and so may whatever a search over the declared lists finds under the whole budget
abbrev pub DeclaredMayBeTold : Type 0
DeclaredMayBeTold = (c : PosedCase) → IsCase c → (nodes steps : ℕ) (v : Event) → IsFirstEvent (case_lists c) nodes steps v → MayBeTold nodes steps c v

-- two events tell the same: that no path exists, or of how many steps the shortest ones are
abbrev pub TellAlike : Event → Event → Type 0
TellAlike (Shut j) (Shut k) = Unit {0}
TellAlike (Reached j) (Reached k) = j ≡ k
TellAlike _ _ = ⊥

-- of what may be told that is not unknown there is one
abbrev pub OneIsTold : Type 0
OneIsTold = (c : PosedCase) (nodes steps : ℕ) (v w : Event) → MayBeTold nodes steps c v → MayBeTold nodes steps c w → is_undecided v ≡ false → is_undecided w ≡ false → TellAlike v w
