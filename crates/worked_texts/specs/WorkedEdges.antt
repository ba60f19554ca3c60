-- Worked texts with the edges of their designs, in flat order. Each was written by hand from the rules.
use Rattle.std.specs.Prelude.{ℕ, List, [], ◌∷◌, codes, Option, Some, None}
use Rattle.smv_core.specs.declared.flat.Cell.{Cell}
use Rattle.law_designs.specs.Loops.{Edge}

-- a cell of the family of this number
abbrev pub cell : ℕ → List (Option ℕ) → Cell
cell family indexes = record { family = family; indexes = indexes }

-- one without indexes
abbrev pub plain : ℕ → Cell
plain family = cell family []

-- one with this index over a range
abbrev pub element : ℕ → ℕ → Cell
element family k = cell family (Some k ∷ [])

-- which assignments have edges, and in which order
abbrev pub assignments : List (List ℕ × List Edge)
assignments =
    -- what a value reads, in the order of the text; a constant reads nothing
    (codes "module main() { a, b, c : boolean; a := c & b; b := 0; }", (plain 0, plain 2) ∷ (plain 0, plain 1) ∷ []) ∷
    -- `init` counts, `next` does not, nor does what a layer says of a signal that is not abstract
    (codes "module main() { a, b : boolean; init(b) := a; a := 0; next(b) := b; layer L : { a := b; } }", (plain 1, plain 0) ∷ []) ∷
    -- two families, mixed by the places of their assignments
    (codes "module main() { x : array 0..1 of boolean; a, b : boolean; x[0] := a; a := b; x[1] := b; }", (element 0 0, plain 1) ∷ (plain 1, plain 2) ∷ (element 0 1, plain 2) ∷ []) ∷
    -- the base definition of an abstract signal, in its first layer
    (codes "module main() { abstract s : boolean; a, b : boolean; layer L : { s := a; } layer K : { s := b; } }", (plain 0, plain 1) ∷ []) ∷ []

-- which cells they are from and to
abbrev pub indexes : List (List ℕ × List Edge)
indexes =
    -- conditions first, then indexes, then the value; an index that is no constant is every number of its type
    (codes "module main() { x : array 2..3 of boolean; y : 2..3; c, d : boolean; if (c) x[y] := d; }", (element 0 2, plain 2) ∷ (element 0 2, plain 1) ∷ (element 0 2, plain 3) ∷ (element 0 3, plain 2) ∷ (element 0 3, plain 1) ∷ (element 0 3, plain 3) ∷ []) ∷
    -- an index over a set type is dropped, one over a range beside it is not
    (codes "scalarset P undefined; module main() { x : array P of array 0..1 of boolean; y : array P of boolean; forall (i in P) x[i][1] := y[i]; }", (cell 0 (None ∷ Some 1 ∷ []), cell 1 (None ∷ [])) ∷ []) ∷
    -- two indexes that are no constants are every pair
    (codes "module main() { x : array 0..1 of array 2..3 of boolean; forall (i in 0..1) next(x[i][2]) := 0; init(x[0][2]) := x[1][3]; layer L : { } a : boolean; forall (i in 0..1) forall (j in 2..3) y[i][j] := a; y : array 0..1 of array 2..3 of boolean; }", (cell 0 (Some 0 ∷ Some 2 ∷ []), cell 0 (Some 1 ∷ Some 3 ∷ [])) ∷ (cell 2 (Some 0 ∷ Some 2 ∷ []), plain 1) ∷ (cell 2 (Some 0 ∷ Some 3 ∷ []), plain 1) ∷ (cell 2 (Some 1 ∷ Some 2 ∷ []), plain 1) ∷ (cell 2 (Some 1 ∷ Some 3 ∷ []), plain 1) ∷ []) ∷ []
