-- What the parts of a search answer.
use Rattle.std.specs.Prelude.{◌≡◌, ℕ, zero, suc, List, [], ◌∷◌, ◌++◌, map, Result, Ok, Err, Option, Some, None}
use Rattle.bdd_store.specs.declared.Ref.{Ref}
use Rattle.bdd_store.specs.Diagram.{Diagram, IsLive, table}
use Rattle.bdd_ops.specs.Functions.{Function}
use Rattle.smv_rings.specs.Functions.{always}
use Rattle.smv_rings.specs.Lists.{Lists}
use Rattle.smv_rings.specs.Ops.{IsOneOf}
use Rattle.smv_rings.specs.Schedule.{Act, Line, lines, one_by_one, after, schedule, ring}
use Rattle.smv_rings.specs.Schedule.Act.{Join, Look_at}
use Rattle.smv_search.specs.declared.counts.Stop.{Stop}
use Rattle.smv_search.specs.declared.counts.Stop.TheVariants.{TooMany, OutOfMemory}
use Rattle.smv_search.specs.declared.turns.End.{End}
use Rattle.smv_search.specs.declared.turns.End.TheVariants.{Closed, Reaches, OutOfSteps}
use Rattle.law_events.specs.Events.{Budget, AllUneventful, First}
use Rattle.law_events.specs.Events.Event.{Counted, Reached, Shut, Images}

-- P after the acts, or the first event of their lines
abbrev pub Runs : Diagram → Budget → List Function → Function → List Act → ℕ → Result (Option Ref) Stop → Type 0
Runs e b kept p acts k (Ok (Some r)) = AllUneventful b (lines kept p acts) × IsLive e r × (table e r ≡ after p acts)
Runs e b kept p acts k (Ok None) = First b (lines kept p acts) (Reached k)
Runs e b kept p acts k (Err (TooMany n)) = First b (lines kept p acts) (Counted n)
Runs e b kept p acts k (Err OutOfMemory) = Unit {0}

-- the lines so far pass, and what is left is that of the acts that are left
pub record Ran (b : Budget) (kept : List Function) (start : Function) (acts : List Act) (p : Function) (left : List Act) : Type 0 where
  pub done : List Line
  pub passed : AllUneventful b done
  pub is_left : lines kept start acts ≡ done ++ lines kept p left
  pub leads : after start acts ≡ after p left

-- these functions were appended one by one, or there were too many beads
abbrev pub TakesIn : Budget → List Function → Result (Unit {0}) Stop → Type 0
TakesIn b fs (Ok x) = AllUneventful b (one_by_one [] fs)
TakesIn b fs (Err (TooMany n)) = First b (one_by_one [] fs) (Counted n)
TakesIn b fs (Err OutOfMemory) = Unit {0}

-- the lines of the functions so far pass, and these are left
pub record Took (b : Budget) (fs kept left : List Function) : Type 0 where
  pub done : List Line
  pub passed : AllUneventful b done
  pub is_left : one_by_one [] fs ≡ done ++ one_by_one kept left

-- what is done up to ring 0, as acts on the first function of what holds now, or on the constant
abbrev pub first_of : List Function → Function
first_of [] = always
first_of (f ∷ fs) = f

abbrev pub behind_first : {A : Type 0} → List A → List A
behind_first [] = []
behind_first (x ∷ xs) = xs

abbrev pub opening : Lists → List Act
opening l = map Join (behind_first l.now_first) ++ (Look_at 0 l.broken_first ∷ map Join l.before_first)

-- ring 0 to the ring before this one
abbrev pub rings_to : Lists → ℕ → List Function
rings_to l zero = []
rings_to l (suc k) = rings_to l k ++ (ring l k ∷ [])

-- how the turns end
abbrev pub IsEnd : Diagram → Lists → Budget → Result End Stop → Type 0
IsEnd e l b (Ok (Closed set)) = (k : ℕ) × First b (schedule l b.images) (Shut k) × (table e set ≡ ring l k) × IsLive e set
IsEnd e l b (Ok (Reaches depth)) = First b (schedule l b.images) (Reached depth)
IsEnd e l b (Ok OutOfSteps) = First b (schedule l b.images) Images
IsEnd e l b (Err (TooMany n)) = First b (schedule l b.images) (Counted n)
IsEnd e l b (Err OutOfMemory) = Unit {0}

-- where a path is found, the rings before it stand behind the functions of the lists
abbrev pub IsEndLive : Diagram → Lists → List Ref → List Ref → Result End Stop → Type 0
IsEndLive e l own now (Ok (Closed set)) = Unit {0}
IsEndLive e l own now (Ok (Reaches depth)) = (rings : List Ref) × (now ≡ own ++ rings) × (map (table e) rings ≡ rings_to l depth) × ((r : Ref) → IsOneOf r rings → IsLive e r)
IsEndLive e l own now (Ok OutOfSteps) = Unit {0}
IsEndLive e l own now (Err s) = Unit {0}
