-- Where the elements of a case stand while some of them are tried one after the other, and the cells that there are then.
use Rattle.std.specs.Prelude.{◌≡◌, ℕ, List, [], ◌∷◌, ◌++◌, map, Bool, true, false, ◌||◌}
use Rattle.std.specs.List.{list_any}
use Rattle.law_obligations.specs.Sets.{Has}
use Rattle.law_obligations.specs.Places.{Place}
use Rattle.law_obligations.specs.May.{AbsState, Kept}
use Rattle.law_obligations.specs.Cones.{AbsElement, element, same_element, kept}
use Rattle.law_obligations.specs.Readings.{PosedCase}
use Rattle.law_arrangements.specs.Arrangements.{EachWith}
use Rattle.law_arrangements.specs.Orders.{arranged}
use Rattle.law_wires.specs.Tries.{AreDetermined}
use Rattle.bdd_store.specs.Diagram.{Diagram, table}
use Rattle.smv_core.specs.declared.flat.Element.{Element}
use Rattle.smv_problem.specs.declared.problem.Problem.{Problem}
use Rattle.smv_problem.specs.Written.{written_element}
use Rattle.bdd_store.specs.declared.Ref.{Ref}
use Rattle.smv_cells.specs.declared.cells.Cell.{Cell}
use Rattle.smv_cells.specs.Seen.{View, IsSeen}
use Rattle.smv_encode.specs.Coded.{state_at}
use Rattle.smv_encode.specs.declared.cells.Cells.{Cells}
use Rattle.smv_wires.specs.Wired.{view_beside}

-- this element is kept too, which was not
pub record KeepsOneMore (x : AbsElement) (old more : Kept) : Type 0 where
  pub fresh : old x.family x.indexes ≡ false
  pub grows : (family : ℕ) (ps : List Place) → more family ps ≡ (old family ps || same_element (element family ps) x)

-- a case in these states, where this is kept
abbrev pub view_keeping : PosedCase → Kept → ((ℕ → Bool) → AbsState) → View
view_keeping c keeps state = record { world = c.problem.world; kept = keeps; state = state }

-- where these elements are kept, by the codes of all
abbrev pub view_coded : PosedCase → List ℕ → List AbsElement → Bool → View
view_coded c order xs next = view_keeping c (kept xs) (state_at c (arranged order) next)

module _ (c : PosedCase) where
  -- these are elements of the case, each once, and those done are determined, whatever the ones left are
  pub record IsUnderWay (done left : List AbsElement) : Type 0 where
    pub are_elements : (y : AbsElement) → Has (done ++ left) y → Has c.elements y
    pub are_apart : EachWith (λ behind y. list_any (same_element y) behind ≡ false) (done ++ left)
    pub are_determined : AreDetermined c done left

  -- both lists have the cells of all elements but those left
  pub record AreCellsBeside (order : List ℕ) (done left : List AbsElement) (d : Diagram) (p : Problem) (cells : Cells) : Type 0 where
    pub current : IsSeen table d p cells.current.items (view_beside c order done left false)
    pub next : IsSeen table d p cells.next.items (view_beside c order done left true)

  -- an element is determined behind those done, and these are then the cells of all but those left, of both times
  pub record AreFound (order : List ℕ) (done : List AbsElement) (x : AbsElement) (left : List AbsElement) (d : Diagram) (p : Problem) (cells next_cells : List (Cell Ref)) : Type 0 where
    pub are_determined : AreDetermined c (done ++ x ∷ []) left
    pub current : IsSeen table d p cells (view_beside c order (done ++ x ∷ []) left false)
    pub next : IsSeen table d p next_cells (view_beside c order (done ++ x ∷ []) left true)

  -- these are left, and the wires are those done, as they are written
  pub record AreTried (order : List ℕ) (left : List AbsElement) (d : Diagram) (p : Problem) (found : List Element) (made : Cells) : Type 0 where
    pub done : List AbsElement
    pub wires : found ≡ map written_element done
    pub under_way : IsUnderWay done left
    pub cells : AreCellsBeside order done left d p made
