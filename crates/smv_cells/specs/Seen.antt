-- How assignments are read as abstract states of a case: by the cells of its kept elements.
use Rattle.std.specs.Prelude.{◌≡◌, ℕ, List, map, Some, Bool, true}
use Rattle.std.specs.List.{list_any}
use Rattle.smv_core.specs.declared.flat.FlatExpr.{FlatExpr}
use Rattle.law_obligations.specs.Sets.{Has}
use Rattle.law_obligations.specs.Places.{Place, World, AbsOutcome}
use Rattle.law_obligations.specs.May.{AbsState, Kept, may}
use Rattle.smv_spots.specs.declared.spots.Spot.{Spot}
use Rattle.smv_spots.specs.Spots.{place_in}
use Rattle.law_obligations.specs.Mix.{is_there}
use Rattle.smv_conditions.specs.Offers.{any_offer}
use Rattle.smv_problem.specs.declared.problem.Problem.{Problem}
use Rattle.smv_problem_spots.specs.Worlds.{IsWorldOf}
use Rattle.smv_cells.specs.declared.cells.Cell.{Cell}
use Rattle.smv_cells.specs.Cells.{is_cell_of}

-- a case, the elements that it keeps, and the abstract state that each assignment is read as
pub record View : Type 0 where
  pub world : World
  pub kept : Kept
  pub state : (ℕ → Bool) → AbsState

-- what an expression may be at an assignment, where its variables stand at these spots
unfoldable pub outcomes : View → (ℕ → Bool) → FlatExpr → List Spot → List AbsOutcome
outcomes v a e b = may v.world v.kept (v.state a) e (map (place_in v.world.classes) b)

-- each expression has an outcome, since each type has a value
pub record IsView (v : View) : Type 0 where
  pub filled : (a : ℕ → Bool) (e : FlatExpr) (b : List Place) → is_there (may v.world v.kept (v.state a) e b) ≡ true

-- assignments are read by these cells: there is one for each element that is kept, and it gives the element's value
pub record IsSeen {S C : Type 0} (holds : S → C → (ℕ → Bool) → Bool) (s : S) (problem : Problem) (cells : List (Cell C)) (v : View) : Type 0 where
  pub view : IsView v
  pub world : IsWorldOf problem v.world
  pub values : (a : ℕ → Bool) (p : AbsOutcome → Bool) (cell : Cell C) → Has cells cell → any_offer v.world.classes holds s a p cell.values ≡ p (Some (v.state a cell.family (map (place_in v.world.classes) cell.indexes)))
  pub kept : (family : ℕ) (ps : List Place) → v.kept family ps ≡ list_any (is_cell_of v.world.classes family ps) cells
