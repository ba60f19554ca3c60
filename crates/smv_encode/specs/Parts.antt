-- What is added to a list of functions.
use Rattle.std.specs.Prelude.{◌≡◌, ℕ, List, ◌++◌, map, Bool, true, false, not, ◌&&◌, length}
use Rattle.bdd_store.specs.declared.Ref.{Ref}
use Rattle.bdd_store.specs.Diagram.{Diagram, table}
use Rattle.bdd_ops.specs.Functions.{Function}
use Rattle.smv_core.specs.declared.flat.Element.{Element}
use Rattle.law_obligations.specs.Sets.{Has}
use Rattle.law_obligations.specs.Obligations.{Demanded}
use Rattle.law_obligations.specs.Cones.{AbsElement}
use Rattle.law_obligations.specs.Readings.{PosedCase, Slot}
use Rattle.law_reports.specs.CaseLists.{moves}
use Rattle.law_arrangements.specs.Arrangements.{Arrangement}
use Rattle.law_arrangements.specs.Orders.{wired}
use Rattle.law_arrangements.specs.ArrangedLists.{element_first, element_step, has_bits}
use Rattle.smv_problem.specs.declared.problem.Demand.{Demand}
use Rattle.smv_problem.specs.Written.{written_demand, written_element}
use Rattle.smv_problem.specs.WellFormed.{IsFit}
use Rattle.smv_problem.specs.declared.problem.Problem.{Problem}
use Rattle.smv_orders.specs.Places.{ArePlaces}
use Rattle.smv_encode.specs.Encoded.{IsKept, AreCellsOf}
use Rattle.smv_encode.specs.declared.cells.Cells.{Cells}
use Rattle.smv_encode.specs.declared.elements.Turn.{Turn}
use Rattle.smv_encode.specs.declared.elements.Turn.TheVariants as turn

-- these are demands of a case, as they are written: each keeps the rules of kinds, and its element is kept
pub record AreDemands (c : PosedCase) (ds : List Demanded) (demands : List Demand) : Type 0 where
  pub written : demands ≡ map (written_demand c.problem.world.classes) ds
  pub fit : (d : Demanded) → Has ds d → IsFit c d
  pub kept : (d : Demanded) → Has ds d → IsKept c d

-- these are elements of a case, as they are written
pub record AreElements (c : PosedCase) (xs : List AbsElement) (elements : List Element) : Type 0 where
  pub written : elements ≡ map written_element xs
  pub among : (x : AbsElement) → Has xs x → Has c.elements x

-- behind the functions of a list stand these
abbrev pub AddsFunctions : Diagram → Diagram → List Ref → List Ref → List Function → Type 0
AddsFunctions d e old new more = map (table e) new ≡ map (table d) old ++ more

-- the function of an element: at time 0, or in a step
abbrev pub element_at : PosedCase → Arrangement → Bool → Slot → Function
element_at c o false slot = element_first c o slot
element_at c o true slot = element_step c o slot

-- it is an element's turn: always, if some of these demands moves it, or if none does
abbrev pub is_turn : List Demanded → Turn → Slot → Bool
is_turn ds turn.All slot = true
is_turn ds turn.Moving slot = moves ds slot
is_turn ds turn.Others slot = not (moves ds slot)

-- and it has bits
abbrev pub has_turn : Arrangement → List Demanded → Turn → Slot → Bool
has_turn o ds t slot = has_bits o slot && is_turn ds t slot

-- These are the places of the bits of all elements in an order, wires are the elements that are worked out, as they are written, and these are the cells of all elements.
pub record AreWiredCells (c : PosedCase) (order : List ℕ) (done : List AbsElement) (d : Diagram) (p : Problem) (places : List ℕ) (wires : List Element) (cells : Cells) : Type 0 where
  pub are_places : ArePlaces order 0 places
  pub are_counted : length order ≡ length places
  pub are_wires : AreElements c done wires
  pub are_cells : AreCellsOf c (wired order done) d p cells
