-- What a search answers.
use Rattle.std.specs.Prelude.{◌≡◌, ℕ, ◌^◌, ◌<◌, ◌≤◌, List, [], ◌∷◌, map, Result, Ok, Err, Option, Some, None}
use Rattle.bdd_store.specs.declared.Ref.{Ref}
use Rattle.bdd_store.specs.Diagram.{Diagram, IsLive, table, beads}
use Rattle.smv_rings.specs.Lists.{Lists, State}
use Rattle.smv_rings.specs.Paths.{IsViolating, IsInductive}
use Rattle.smv_rings.specs.Schedule.{schedule, ring}
use Rattle.smv_rings.specs.Ops.{IsOneOf}
use Rattle.smv_search.specs.declared.Outcome.{Outcome}
use Rattle.smv_search.specs.declared.Outcome.TheVariants.{Closed, Reaches, OutOfNodes, OutOfSteps}
use Rattle.smv_search.specs.declared.counts.Stop.{Stop}
use Rattle.smv_search.specs.declared.counts.Stop.TheVariants.{TooMany, OutOfMemory}
use Rattle.law_events.specs.Events.{Budget, AllUneventful, First, IsFirstEvent}
use Rattle.law_events.specs.Events.Event.{Counted, Reached, Shut, Images}
use Rattle.smv_search.specs.Runs.{rings_to}

-- the functions of an outcome
abbrev pub found : Outcome → List Ref
found (Closed set) = set ∷ []
found (Reaches depth rings) = rings.items
found (OutOfNodes count) = []
found OutOfSteps = []

-- the outcome is the verdict of the case, with the ring that equals the next one, or with the rings before the last
-- state of a shortest violating path
abbrev pub Answers : Diagram → Lists → ℕ → ℕ → Outcome → Type 0
Answers d l nodes images (Closed set) = (k : ℕ) × IsFirstEvent l nodes images (Shut k) × (table d set ≡ ring l k)
Answers d l nodes images (Reaches depth rings) = IsFirstEvent l nodes images (Reached depth) × (map (table d) rings.items ≡ rings_to l depth)
Answers d l nodes images (OutOfNodes count) = IsFirstEvent l nodes images (Counted count)
Answers d l nodes images OutOfSteps = IsFirstEvent l nodes images Images

-- a closed set meets the four conditions, no violating path has any length, and the set is within the budget
abbrev pub IsProof : Diagram → Lists → ℕ → Outcome → Type 0
IsProof d l nodes (Closed set) = IsInductive l (table d set) × ((k : ℕ) (path : ℕ → State) → IsViolating l k path → ⊥) × (beads d set ≤ nodes)
IsProof d l nodes (Reaches depth rings) = Unit {0}
IsProof d l nodes (OutOfNodes count) = Unit {0}
IsProof d l nodes OutOfSteps = Unit {0}

-- a violating path has this many steps, and none has fewer
abbrev pub IsLeast : Lists → Outcome → Type 0
IsLeast l (Closed set) = Unit {0}
IsLeast l (Reaches depth rings) = ((path : ℕ → State) × IsViolating l depth path) × ((k : ℕ) → k < depth → (path : ℕ → State) → IsViolating l k path → ⊥)
IsLeast l (OutOfNodes count) = Unit {0}
IsLeast l OutOfSteps = Unit {0}

-- images are used up only where they are fewer than states
abbrev pub IsFew : Lists → ℕ → Outcome → Type 0
IsFew l images (Closed set) = Unit {0}
IsFew l images (Reaches depth rings) = Unit {0}
IsFew l images (OutOfNodes count) = Unit {0}
IsFew l images OutOfSteps = images < 2 ^ l.bits

-- ---- parts

-- ring 0, or the event before it
abbrev pub Begins : Diagram → Lists → Budget → Result (Option Ref) Stop → Type 0
Begins d l b (Ok (Some r)) = AllUneventful b (schedule l 0) × IsLive d r × (table d r ≡ ring l 0)
Begins d l b (Ok None) = First b (schedule l 0) (Reached 0)
Begins d l b (Err (TooMany n)) = First b (schedule l 0) (Counted n)
Begins d l b (Err OutOfMemory) = Unit {0}

-- an outcome in the store in which the turns ended
abbrev pub IsTold : Diagram → Lists → Budget → Outcome → Type 0
IsTold d l b (Closed set) = (k : ℕ) × First b (schedule l b.images) (Shut k) × (table d set ≡ ring l k) × IsLive d set
IsTold d l b (Reaches depth rings) = First b (schedule l b.images) (Reached depth) × (map (table d) rings.items ≡ rings_to l depth) × ((r : Ref) → IsOneOf r rings.items → IsLive d r)
IsTold d l b (OutOfNodes count) = First b (schedule l b.images) (Counted count)
IsTold d l b OutOfSteps = First b (schedule l b.images) Images
