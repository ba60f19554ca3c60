-- Rows: all cells of a family with some indexes, under one number for all assignments that read them.
use Rattle.std.specs.Prelude.{◌≡◌, ℕ, ◌-◌, List, [], ◌∷◌, map, length, slice_get, slice_index_or, if◌then◌else◌, nat_lt}
use Rattle.smv_core.specs.declared.flat.Family.{Family}
use Rattle.law_designs.specs.Loops.{cells_of}
use Rattle.smv_loops.specs.Cells.{base, number_in}
use Rattle.smv_indexes.specs.Indexes.{index_of}
use Rattle.smv_loops.specs.declared.rows.Row.{Row}

-- a row has the numbers of the cells with its indexes
abbrev pub IsRow : List Family → Row → Type 0
IsRow families row = row.cells.items ≡ map (number_in families) (cells_of (slice_get families row.family) row.family (map index_of row.indexes.items))

-- the cells of the row at a place
abbrev pub row_at : List Row → ℕ → List ℕ
row_at rows place = slice_index_or (map (λ (row : Row). row.cells.items) rows) place []

-- what a number stands for, where the numbers of rows follow those of cells
abbrev pub stands_for : List Family → List Row → ℕ → List ℕ
stands_for families rows n = if nat_lt n (base families (length families)) then n ∷ [] else row_at rows (n - base families (length families))
