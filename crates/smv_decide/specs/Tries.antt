-- What is found of a case by a try.
use Rattle.std.specs.Prelude.{◌≡◌, ⊤, ℕ, List, map, Bool, true, false}
use Rattle.law_events.specs.Events.{Event}
use Rattle.law_events.specs.Events.Event.{Counted, Reached, Shut, Images}
use Rattle.smv_core.specs.declared.flat.Element.{Element}
use Rattle.law_obligations.specs.Sets.{Has}
use Rattle.law_obligations.specs.Cones.{AbsElement}
use Rattle.law_obligations.specs.May.{AbsState}
use Rattle.law_obligations.specs.Readings.{PosedCase}
use Rattle.law_obligations.specs.CasePaths.{IsShortest}
use Rattle.smv_problem.specs.Written.{written_element, written_state}
use Rattle.smv_problem.specs.WellFormed.{AreApartElements}
use Rattle.smv_decide.specs.declared.tries.Tried.{Tried}
use Rattle.smv_decide.specs.declared.tries.Tried.TheVariants.{Safe, Broken, OutOfNodes, OutOfSteps, NoRoom}

-- an event of which this is so, with a shortest violating path where one is reached; that there was no room says nothing
abbrev pub IsTried : (Event → Type 0) → PosedCase → Tried → Type 0
IsTried told c Safe = (k : ℕ) × told (Shut k)
IsTried told c (Broken path) = (k : ℕ) × told (Reached k) × ((states : List AbsState) × IsShortest c.problem k states × (path ≡ map (written_state c) states))
IsTried told c (OutOfNodes count) = told (Counted count)
IsTried told c OutOfSteps = told Images
IsTried told c NoRoom = ⊤

-- the budget of nodes was passed, or there was no room for the functions
abbrev pub is_out : Tried → Bool
is_out Safe = false
is_out (Broken path) = false
is_out (OutOfNodes count) = true
is_out OutOfSteps = false
is_out NoRoom = true

-- elements of a case, each once
abbrev pub AreCandidates : List Element → PosedCase → Type 0
AreCandidates elements c = (xs : List AbsElement) × (elements ≡ map written_element xs) × ((x : AbsElement) → Has xs x → Has c.elements x) × AreApartElements xs
