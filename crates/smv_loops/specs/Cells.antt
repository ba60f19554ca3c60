-- Cells by their numbers: those of a family follow those of the families before it, each front of indexes before what it begins.
use Rattle.std.specs.Prelude.{ℕ, zero, suc, ◌+◌, ◌-◌, ◌*◌, List, [], ◌∷◌, map, flat_map, zip, length, slice_get, Option, Some, None}
use Rattle.smv_core.specs.Assignments.{Index, computed}
use Rattle.smv_core.specs.declared.flat.Simple.{Simple}
use Rattle.smv_core.specs.declared.flat.Simple.TheVariants.{Range}
use Rattle.smv_core.specs.declared.flat.Family.{Family}
use Rattle.smv_core.specs.declared.flat.Cell.{Cell}
use Rattle.law_designs.specs.Loops.{at_index, ways, cells_of}
use Rattle.law_designs.specs.Reading.{Reference, Reading}

-- what the cells with these indexes have at them
abbrev pub picked : List Simple → List Index → List (List (Option ℕ))
picked over indexes = ways (map (λ (over, i). at_index over i) (zip over indexes))

-- the lists of indexes of a family's cells, with all fronts of such lists
abbrev pub every : List Simple → List (List (Option ℕ))
every [] = [] ∷ []
every (o ∷ over) = [] ∷ flat_map (λ x. map (λ xs. x ∷ xs) (every over)) (at_index o computed)

-- the place of an index among those that its type has
abbrev pub digit : Simple → Option ℕ → ℕ
digit (Range low high) (Some k) = k - low
digit _ _ = 0

-- the place of a list of indexes
abbrev pub place : List Simple → List (Option ℕ) → ℕ
place (o ∷ over) (x ∷ xs) = 1 + (digit o x * length (every over) + place over xs)
place _ _ = 0

-- where the numbers of a family begin
abbrev pub base : List Family → ℕ → ℕ
base [] k = 0
base (f ∷ families) zero = 0
base (f ∷ families) (suc k) = length (every f.over) + base families k

abbrev pub over_of : Option Family → List Simple
over_of None = []
over_of (Some f) = f.over

-- the number of a cell
abbrev pub number_in : List Family → Cell → ℕ
number_in families c = base families c.family + place (over_of (slice_get families c.family)) c.indexes

module _ (families : List Family) where
  -- the cells that an assignment concerns
  abbrev pub froms : Reading → List Cell
  froms a = cells_of (slice_get families a.family) a.family a.left

  -- the cells that it reads
  abbrev pub reads_of : Reference → List Cell
  reads_of r = cells_of (slice_get families r.family) r.family r.indexes

  abbrev pub tos : Reading → List Cell
  tos a = flat_map reads_of a.reads
