-- Loops without delay, as assignments each of which reads a cell that the next concerns: by law_designs/specs/Loops an edge leads from each cell of the first to that cell. Begin here.
use Rattle.std.specs.Prelude.{◌≡◌, ℕ, ◌<◌, List, [], ◌∷◌, length, flat_map, filter, slice_get}
use Rattle.std.specs.List.{Contains}
use Rattle.smv_core.specs.declared.flat.Family.{Family}
use Rattle.smv_core.specs.declared.flat.Cell.{Cell}
use Rattle.smv_core.specs.declared.flat.Design.{Design}
use Rattle.law_designs.specs.Loops.{cells_of, is_base, looping, undelayed}
use Rattle.law_designs.specs.Reading.{Reference, Reading}

module _ (families : List Family) where
  -- by a reference at a place an assignment reads a cell that another concerns
  pub record Reads (a : Reading) (place : ℕ) (b : Reading) : Type 0 where
    pub reference : Reference
    pub stands : Contains a.reads reference
    pub is : reference.at ≡ place
    pub cell : Cell
    pub read : Contains (cells_of (slice_get families reference.family) reference.family reference.indexes) cell
    pub concerned : Contains (cells_of (slice_get families b.family) b.family b.left) cell

  -- from an assignment to another, over some of these: each reads a cell of the next, by references at these places
  abbrev pub Path : List Reading → Reading → List ℕ → Reading → Type 0
  Path all a [] z = a ≡ z
  Path all a (place ∷ places) z = (b : Reading) × Contains all b × Reads a place b × Path all b places z

-- the assignments of the base definitions that hold at one time
abbrev pub assignments : Design → List Reading
assignments d = flat_map undelayed (filter (is_base d) d.defs)

-- a loop that begins, and ends, with an assignment at this place
abbrev pub IsLoopAt : Design → ℕ → List ℕ → Type 0
IsLoopAt d at places = (a : Reading) × Contains (assignments d) a × (a.at ≡ at) × (0 < length places) × Path d.families (assignments d) a places a

-- where edges first hold a cycle with those of an assignment at a place, as at a fault 18, a loop begins there
abbrev pub LoopsAreFound : Type 0
LoopsAreFound = (d : Design) (at : ℕ) → looping d ≡ at ∷ [] → (places : List ℕ) × IsLoopAt d at places
