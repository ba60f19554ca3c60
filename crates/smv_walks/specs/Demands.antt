-- How a case is read by cells at a time, and the demands of which something is said.
use Rattle.std.specs.Prelude.{◌≡◌, ℕ, List, map, slice_get, Option, Some, None, Bool, true, ◌||◌}
use Rattle.std.specs.List.{list_all}
use Rattle.smv_core.specs.declared.flat.Guard.{Guard}
use Rattle.smv_core.specs.declared.flat.Simple.{Simple}
use Rattle.law_obligations.specs.Sets.{Has}
use Rattle.law_obligations.specs.Places.{Place, World, AbsOutcome, is_named, is_among, places_in}
use Rattle.law_obligations.specs.May.{AbsState}
use Rattle.law_obligations.specs.Right.{is_outside}
use Rattle.law_obligations.specs.Demands.{places_of_family, may_equal}
use Rattle.law_obligations.specs.Obligations.{AbstractProblem as Case, Demanded, defined, holds}
use Rattle.law_obligations.specs.Soundness.{over_of}
use Rattle.law_obligations.specs.Covers.{IsIndexType, AreApart}
use Rattle.smv_spots.specs.declared.spots.Spot.{Spot}
use Rattle.smv_problem.specs.declared.problem.Demand.{Demand}
use Rattle.smv_problem.specs.declared.problem.Problem.{Problem}
use Rattle.smv_problem.specs.Written.{written_spot, written_demand}
use Rattle.smv_problem.specs.WellFormed.{AreOf}
use Rattle.smv_cells.specs.declared.cells.Cell.{Cell}
use Rattle.smv_cells.specs.Cells.{AreCellsMade}
use Rattle.smv_cells.specs.Seen.{View, IsSeen}
use Rattle.smv_outcomes.specs.Remembered.{AreKnown, Entries}

-- a case with the abstract state that each assignment is read as
unfoldable pub view_of : Case → ((ℕ → Bool) → AbsState) → View
view_of p state = record { world = p.world; kept = p.kept; state = state }

-- the state before, which there is none of at time 0
abbrev pub at_before : Option ((ℕ → Bool) → AbsState) → (ℕ → Bool) → Option AbsState
at_before None a = None
at_before (Some before) a = Some (before a)

-- each element that is kept has a value of its type
abbrev pub HaveValues : Case → ((ℕ → Bool) → AbsState) → Type 0
HaveValues p state = (a : ℕ → Bool) (family : ℕ) (ps : List Place) → p.kept family ps ≡ true → is_among (places_of_family p.world p.kept (slice_get p.world.classes.families family)) (state a family ps) ≡ true

module _ {S C : Type 0} (holds_at : S → C → (ℕ → Bool) → Bool) (s : S) (problem : Problem) where
  -- the state before is read by the cells before
  abbrev pub IsReadBefore : Option (List (Cell C)) → Case → Option ((ℕ → Bool) → AbsState) → Type 0
  IsReadBefore None p None = Unit {0}
  IsReadBefore (Some old) p (Some before) = IsSeen holds_at s problem old (view_of p before) × HaveValues p before
  IsReadBefore _ p _ = ⊥

  -- the states of a case are read by these cells, those before and those now
  pub record AreRead (old : Option (List (Cell C))) (cells : List (Cell C)) (p : Case) (earlier : Option ((ℕ → Bool) → AbsState)) (state : (ℕ → Bool) → AbsState) : Type 0 where
    pub now : IsSeen holds_at s problem cells (view_of p state)
    pub values : HaveValues p state
    pub before : IsReadBefore old p earlier

-- a demand of an element that is kept, at places of its index types, which are no enumerations; or of a claim, whose variables are at places of their types
abbrev pub IsDemand : Case → Demanded → Type 0
IsDemand p (defined def indexes) = (p.kept def.family indexes ≡ true) × ((t : Simple) → Has (over_of (slice_get p.world.classes.families def.family)) t → IsIndexType t) × AreOf p.world (over_of (slice_get p.world.classes.families def.family)) indexes
IsDemand p (holds body b) = AreApart p.world.classes.sets × (over : List Simple) × AreOf p.world over b

-- a target: the same, but an element with an index at a rest need not be kept
abbrev pub IsTargetOf : Case → Demanded → Type 0
IsTargetOf p (defined def indexes) = (list_all is_named indexes ≡ true → p.kept def.family indexes ≡ true) × ((t : Simple) → Has (over_of (slice_get p.world.classes.families def.family)) t → IsIndexType t) × AreOf p.world (over_of (slice_get p.world.classes.families def.family)) indexes
IsTargetOf p (holds body b) = AreApart p.world.classes.sets × (over : List Simple) × AreOf p.world over b

-- a guard, whose variable is one of the leaf's parameters
pub record IsGuard (p : Case) (bindings : List Spot) (g : Guard) : Type 0 where
  pub apart : AreApart p.world.classes.sets
  pub over : List Simple
  pub are_of : AreOf p.world over p.params
  pub bound : map (written_spot p.world.classes) p.params ≡ bindings
  pub has_param : slice_get over g.var ≡ Some g.over

-- the cells before, where there are any, are made
abbrev pub AreOldMade : {C : Type 0} → (C → Type 0) → Option (List (Cell C)) → Type 0
AreOldMade IsMade None = Unit {0}
AreOldMade IsMade (Some old) = AreCellsMade IsMade old

-- what is known of expressions where they are read by the cells before, where there are any
abbrev pub AreOldKnown : {S C : Type 0} → (S → C → Type 0) → (S → C → (ℕ → Bool) → Bool) → S → Problem → Option (List (Cell C)) → Entries C → Type 0
AreOldKnown IsMade holds_at s problem None entries = Unit {0}
AreOldKnown IsMade holds_at s problem (Some old) entries = AreKnown IsMade holds_at s problem old entries

-- an outcome is outside a type, or may be equal to a place
abbrev pub guard_test : World → Simple → Place → AbsOutcome → Bool
guard_test w over i u = is_outside (places_in w over) u || may_equal i u

-- a condition, made later, holds where this is so of each such demand of a case that is written so
unfoldable pub IsDemanded : (Case → Demanded → Type 0) → {S C : Type 0} → (S → C → (ℕ → Bool) → Bool) → S → S → Problem → Option (List (Cell C)) → List (Cell C) → Demand → (Case → Option AbsState → AbsState → Demanded → Bool) → C → Type 0
IsDemanded Of holds_at start s problem old cells demand is r = (p : Case) (before : Option ((ℕ → Bool) → AbsState)) (now : (ℕ → Bool) → AbsState) → AreRead holds_at start problem old cells p before now → (d : Demanded) → Of p d → demand ≡ written_demand p.world.classes d →
    (a : ℕ → Bool) → holds_at s r a ≡ is p (at_before before a) (now a) d
