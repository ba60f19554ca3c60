-- What holds of verdicts, and a worked case.
use Rattle.std.specs.Prelude.{◌≡◌, ℕ, ◌&&◌, ◌||◌, not, [], ◌∷◌, map}
use Rattle.smv_rings.specs.Functions.{never}
use Rattle.smv_rings.specs.Lists.{Lists}
use Rattle.smv_rings.specs.Schedule.{schedule}
use Rattle.law_events.specs.Events.{Event, IsFirstEvent, count}

-- a case has one verdict for its budgets
abbrev pub OneVerdict : Type 0
OneVerdict = (l : Lists) (nodes images : ℕ) (v w : Event) → IsFirstEvent l nodes images v → IsFirstEvent l nodes images w → v ≡ w

-- one bit that is 0 at first and changes at each step, with a claim that always holds
abbrev pub toggle : Lists
toggle = record { now_first = (λ a. not (a 0)) ∷ []; before_first = []; broken_first = never; now_step = (λ a. (a 0 && not (a 1)) || (not (a 0) && a 1)) ∷ []; before_step = []; broken_step = never; bits = 1 }

-- what is counted up to image 2: the four functions, the first state, ring 0 with what is looked at, and the two turns
abbrev pub ToggleCounts : Type 0
ToggleCounts = map (count 2) (schedule toggle 2) ≡ 1 ∷ 1 ∷ 4 ∷ 4 ∷ 4 ∷ 4 ∷ 5 ∷ 5 ∷ 4 ∷ 5 ∷ 5 ∷ 4 ∷ 4 ∷ 4 ∷ 4 ∷ 4 ∷ []
