-- The cells of a design in an order in which each stands after all that it reads.
use Rattle.std.specs.Prelude.{◌≡◌, ◌+◌, ◌<◌, ℕ, List, [], ◌∷◌, ◌++◌, map, flat_map, slice_get, Option, Some, None, Result, Ok, Err}
use Rattle.std.specs.Global.{Vec}
use Rattle.std.specs.List.{Contains}
use Rattle.std.specs.List.Sorted.{IsPermutation}
use Rattle.smv_core.specs.Assignments.{computed}
use Rattle.smv_core.specs.declared.fault.Fault.{Fault}
use Rattle.smv_core.specs.declared.fault.Refusal.{Refusal}
use Rattle.smv_core.specs.declared.fault.Refusal.TheVariants as refusal
use Rattle.smv_core.specs.declared.flat.Simple.{Simple}
use Rattle.smv_core.specs.declared.flat.Family.{Family}
use Rattle.smv_core.specs.declared.flat.Cell.{Cell}
use Rattle.smv_core.specs.declared.flat.Design.{Design}
use Rattle.law_designs.specs.Loops.{Edge, at_index, ways, edges_of, undelayed_in}
use Rattle.smv_loops.specs.declared.listed.Listed.{Listed}
use Rattle.smv_loops.specs.Cells.{number_in}
use Rattle.smv_loops.specs.Ranks.{rank}

-- ---- all cells

-- each list of what a cell has at indexes of these types: over a range one of its numbers, and over another type none
abbrev pub every_way : List Simple → List (List (Option ℕ))
every_way over = ways (map (λ o. at_index o computed) over)

-- the cells of a family
abbrev pub cells_in : ℕ → Family → List Cell
cells_in family f = map (λ (is : List (Option ℕ)). record { family = family; indexes = is }) (every_way f.over)

-- those of these families, of which the first has this number
abbrev pub cells_from : ℕ → List Family → List Cell
cells_from k [] = []
cells_from k (f ∷ families) = cells_in k f ++ cells_from (k + 1) families

abbrev pub all_cells : Design → List Cell
all_cells d = cells_from 0 d.families

-- ---- the order

-- what a cell reads stands before it
abbrev pub AreAfterTheirReads : List Edge → List Cell → Type 0
AreAfterTheirReads edges cells = (i j : ℕ) (from to : Cell) → Contains edges (from, to) → slice_get cells i ≡ Some from → slice_get cells j ≡ Some to → j < i

-- each cell once, and each after all that it reads at the same time
pub record IsOrder (d : Design) (cells : List Cell) : Type 0 where
  pub each_once : IsPermutation (all_cells d) cells
  pub after_reads : AreAfterTheirReads (flat_map (edges_of d) (undelayed_in d)) cells

-- a refusal for a fault has one of which this holds
abbrev pub IfFault : {X : Type 0} → Result X Refusal → (Fault → Type 0) → Type 0
IfFault (Ok x) P = Unit {0}
IfFault (Err (refusal.Fault fault)) P = P fault
IfFault (Err refusal.OutOfMemory) P = Unit {0}

-- ---- cells as the program lists them

abbrev pub lists_of : List (Vec (Option ℕ)) → List (List (Option ℕ))
lists_of lists = map (λ (list : Vec (Option ℕ)). list.items) lists

-- an index of a type that is no range
abbrev pub nothing : List (Option ℕ)
nothing = None ∷ []

-- this before each of these lists
abbrev pub begun : Option ℕ → List (List (Option ℕ)) → List (List (Option ℕ))
begun first rest = map (λ list. first ∷ list) rest

-- each of these before each of these lists
abbrev pub all_begun : List (Option ℕ) → List (List (Option ℕ)) → List (List (Option ℕ))
all_begun firsts rest = flat_map (λ first. begun first rest) firsts

-- a cell with its rank
abbrev pub listed : List Family → List ℕ → Cell → Listed
listed families ranks c = record { rank = rank ranks (number_in families c); cell = c }
