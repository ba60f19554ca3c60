-- The functions of a case at time 0 and in a step, and the cells that they are made of.
use Rattle.std.specs.Prelude.{◌≡◌, ℕ, List, Some, None, Bool, true, false}
use Rattle.bdd_store.specs.Diagram.{Diagram, IsLive, table}
use Rattle.bdd_ops.specs.Functions.{Function}
use Rattle.law_obligations.specs.Obligations.{Demanded, defined, holds, obligation}
use Rattle.law_obligations.specs.Readings.{PosedCase}
use Rattle.law_arrangements.specs.Arrangements.{Arrangement}
use Rattle.law_arrangements.specs.ArrangedLists.{met_first, met_step}
use Rattle.smv_problem.specs.declared.problem.Problem.{Problem}
use Rattle.smv_cells.specs.Cells.{AreCellsMade}
use Rattle.smv_cells.specs.Seen.{IsSeen}
use Rattle.smv_outcomes.specs.Remembered.{AreKnown}
use Rattle.smv_encode.specs.Coded.{AreStates, state_at, view_at, AreCoded}
use Rattle.smv_encode.specs.declared.cells.Cells.{Cells}
use Rattle.smv_encode.specs.declared.cells.CaseKnown.{CaseKnown}

-- a demand is met, over an arrangement: at time 0, or in a step
abbrev pub met_at : PosedCase → Arrangement → Bool → Demanded → Function
met_at c o false demand = met_first c o demand
met_at c o true demand = met_step c o demand

-- the target is broken, and each guard may hold
abbrev pub broken_at : PosedCase → Arrangement → Bool → Function
broken_at c o false a = (obligation c.problem).broken None (state_at c o false a)
broken_at c o true a = (obligation c.problem).broken (Some (state_at c o false a)) (state_at c o true a)

-- the element of a definition is kept; of a claim nothing is asked
abbrev pub IsKept : PosedCase → Demanded → Type 0
IsKept c (defined def indexes) = c.problem.kept def.family indexes ≡ true
IsKept c (holds body b) = Unit {0}

-- cells whose conditions are live
pub record AreLiveCells (d : Diagram) (cells : Cells) : Type 0 where
  pub current : AreCellsMade (IsLive d) cells.current.items
  pub next : AreCellsMade (IsLive d) cells.next.items

-- the cells of a case in the states of the current and of the next bits, over an arrangement
pub record AreCellsOf (c : PosedCase) (o : Arrangement) (d : Diagram) (p : Problem) (cells : Cells) : Type 0 where
  pub states : AreStates c o
  pub current : IsSeen table d p cells.current.items (view_at c o false)
  pub next : IsSeen table d p cells.next.items (view_at c o true)

-- the cells of all elements by their codes
pub record AreCodedCells (c : PosedCase) (order : List ℕ) (d : Diagram) (cells : Cells) : Type 0 where
  pub current : AreCoded c order d false 0 c.elements cells.current.items
  pub next : AreCoded c order d true 0 c.elements cells.next.items

-- what is known of expressions is right for both cells
pub record AreKnownOfCase (d : Diagram) (p : Problem) (cells : Cells) (known : CaseKnown) : Type 0 where
  pub current : AreKnown IsLive table d p cells.current.items known.current.entries.items
  pub next : AreKnown IsLive table d p cells.next.items known.next.entries.items
