-- Worked texts by theme, each with the first fault of loops and layers. Each answer was worked out by hand from the rules, the places too.
use Rattle.std.specs.Prelude.{ℕ, List, [], ◌∷◌, codes}
use Rattle.worked_texts.specs.Worked.{Answer, fault, valid}
use Rattle.worked_texts.specs.Tomasulo.{machine}

-- one text for each fault
abbrev pub rows : List (List ℕ × Answer)
rows =
    -- a loop of two
    (codes "module main() { a, b : boolean; a := b; b := a; }", fault 18 40) ∷
    -- a definition outside layers reads an abstract signal
    (codes "module main() { abstract s : boolean; x : boolean; layer L : { s := 0; } x := s; }", fault 19 78) ∷
    -- an abstract signal assigned outside layers
    (codes "module main() { abstract s : boolean; s := 0; }", fault 20 38) ∷ []

-- signals that read one another, and the assignment that closes the loop
abbrev pub loops : List (List ℕ × Answer)
loops =
    -- a signal that reads itself
    (codes "module main() { a : boolean; a := ~a; }", fault 18 29) ∷
    -- a loop of three
    (codes "module main() { a, b, c : boolean; a := b; b := c; c := a; }", fault 18 51) ∷
    -- in another order
    (codes "module main() { a, b, c : boolean; c := a; a := b; b := c; }", fault 18 51) ∷
    -- a chain
    (codes "module main() { a, b, c : boolean; a := b & c; b := c; }", valid) ∷
    -- two ways to one signal
    (codes "module main() { a, b, c, d : boolean; a := b | c; b := d; c := d; }", valid) ∷
    -- a tail before a loop, and a second loop behind it
    (codes "module main() { a, b, c, d : boolean; a := b; b := c; c := b; d := d; }", fault 18 54) ∷
    -- between assignments of another signal
    (codes "module main() { x : array 0..1 of boolean; a : boolean; x[0] := 0; a := x[1]; x[1] := a; }", fault 18 78) ∷
    -- at time 0
    (codes "module main() { a, b : boolean; init(a) := b; init(b) := a; }", fault 18 46) ∷
    -- at time 0, through a signal that holds at each time
    (codes "module main() { a, b : boolean; b := a; init(a) := b; next(a) := 0; }", fault 18 40) ∷ []

-- a `next` has a delay
abbrev pub delays : List (List ℕ × Answer)
delays =
    -- of itself
    (codes "module main() { a : boolean; init(a) := 0; next(a) := ~a; }", valid) ∷
    -- it cuts a loop
    (codes "module main() { a, b : boolean; init(a) := 0; next(a) := b; b := a; }", valid) ∷
    -- two
    (codes "module main() { a, b : boolean; next(a) := b; next(b) := a; }", valid) ∷
    -- its condition
    (codes "module main() { a, b : boolean; if (b) next(a) := 0; b := a; }", valid) ∷
    -- a loop beside it
    (codes "module main() { a, b, c : boolean; next(a) := b; b := c; c := a & b; }", fault 18 57) ∷ []

-- constants keep cells apart, and any other index is every number
abbrev pub indexes : List (List ℕ × Answer)
indexes =
    -- two constants
    (codes "module main() { x : array 0..3 of boolean; y : 0..3; x[0] := x[1]; x[1] := x[2]; }", valid) ∷
    -- a loop of three elements
    (codes "module main() { x : array 0..3 of boolean; y : 0..3; x[0] := x[1]; x[1] := x[2]; x[2] := x[0]; }", fault 18 81) ∷
    -- sums, differences and remainders of constants
    (codes "module main() { x : array 0..3 of boolean; y : 0..3; x[1] := x[0]; x[5 mod 5] := x[3 - 2]; }", fault 18 67) ∷
    -- kept apart through a signal
    (codes "module main() { x : array 0..3 of boolean; y : 0..3; x[0] := y = 0; y := x[1] ? 1 : 2; }", valid) ∷
    -- the index of a left side is read
    (codes "module main() { x : array 0..3 of boolean; y : 0..3; y := x[0] ? 1 : 2; x[y] := 0; }", fault 18 72) ∷
    -- what is read at an index that is no constant is every element
    (codes "module main() { x : array 0..3 of boolean; y : 0..3; x[0] := x[y]; }", fault 18 53) ∷
    -- the index of a reference is read
    (codes "module main() { x : array 0..3 of boolean; y : 0..3; v : array 0..3 of boolean; x[0] := v[y]; y := x[0] ? 3 : 0; }", fault 18 94) ∷
    -- and so is an index in it
    (codes "module main() { z, v : array 0..1 of 0..1; y : boolean; v[0] := z[z[v[1]]]; v[1] := v[0]; }", fault 18 76) ∷
    -- a `for` variable is a constant
    (codes "module main() { x : array 0..3 of boolean; y : 0..3; for (k = 1; k < 4; k = k + 1) x[k] := x[k - 1]; }", valid) ∷
    -- the copy of a `for` that closes the loop
    (codes "module main() { x : array 0..3 of boolean; y : 0..3; x[0] := x[2]; for (k = 1; k < 4; k = k + 1) x[k] := x[k - 1]; }", fault 18 97) ∷
    -- a `forall` variable is not
    (codes "module main() { x : array 0..3 of boolean; y : 0..3; forall (i in 1..3) x[i] := x[i - 1]; }", fault 18 72) ∷
    -- every number, on either side
    (codes "module main() { x : array 0..3 of boolean; y : 0..3; v : array 0..1 of boolean; forall (i in 0..1) v[i] := x[i]; x[3] := v[0]; }", fault 18 113) ∷
    -- the variable of a reduction is every number
    (codes "module main() { x : array 0..3 of boolean; y : 0..3; x[0] := &[x[i] : i in 1..3]; }", fault 18 53) ∷
    -- a constant that is Undefined concerns no element
    (codes "module main() { x : array 0..3 of boolean; y : 0..3; x[0 - 1] := x[0 - 1]; }", valid) ∷
    -- nor does one outside the index type
    (codes "module main() { x : array 0..3 of boolean; y : 0..3; x[4] := x[4]; }", valid) ∷
    -- nor is one read
    (codes "module main() { x : array 0..3 of boolean; y : 0..3; forall (i in 0..3) x[i] := x[4] | x[0 - 1]; }", valid) ∷ []

-- indexes over set types are dropped
abbrev pub sets : List (List ℕ × Answer)
sets =
    -- two elements
    (codes "scalarset P undefined; module main() { x : array P of boolean; d, e : P; x[d] := x[e]; }", fault 18 73) ∷
    -- two families
    (codes "scalarset P undefined; module main() { x, y : array P of boolean; d : P; forall (i in P) x[i] := y[i]; y[d] := x[d]; }", fault 18 103) ∷
    -- the constants beside them keep apart
    (codes "scalarset P undefined; module main() { x : array 0..1 of array P of boolean; forall (i in P) x[0][i] := x[1][i]; }", valid) ∷
    -- in the other order of indexes
    (codes "scalarset P undefined; module main() { x : array P of array 0..1 of boolean; forall (i in P) x[i][0] := x[i][1]; forall (i in P) x[i][1] := x[i][0]; }", fault 18 129) ∷
    -- a number concerns no element, nor is one read
    (codes "scalarset P undefined; module main() { x : array P of boolean; for (k = 0; k < 2; k = k + 1) x[k] := x[k]; }", valid) ∷
    -- a reference as an index is read
    (codes "scalarset P undefined; module main() { x : array P of boolean; d, e : P; x[d] := 0; d := x[e] ? e : e; }", fault 18 84) ∷ []

-- the conditions around an assignment are read
abbrev pub conditions : List (List ℕ × Answer)
conditions =
    -- of an `if`
    (codes "module main() { a, b : boolean; if (b) a := 0; b := a; }", fault 18 47) ∷
    -- of its `else`
    (codes "module main() { a, b, c : boolean; if (b) a := 0; else c := 0; b := c; }", fault 18 63) ∷
    -- of an `if` around an `if`
    (codes "module main() { a, b, c : boolean; if (b) { if (c) a := 0; } b := a; }", fault 18 61) ∷
    -- the value of a `switch`
    (codes "module main() { a, b : boolean; switch (b) { 0 : a := 0; default : a := 1; } b := a; }", fault 18 77) ∷
    -- a label
    (codes "module main() { a, b, c : boolean; switch (c) { b : a := 0; } b := a; }", fault 18 62) ∷
    -- a label of an arm before
    (codes "module main() { a, b, c, d : boolean; switch (c) { b : a := 0; 1 : d := 1; } b := d; }", fault 18 77) ∷
    -- a label of an arm behind is not
    (codes "module main() { a, b, c, d : boolean; switch (c) { 0 : a := 0; b : d := 1; } b := a; }", valid) ∷
    -- of another assignment of the same family
    (codes "module main() { x : array 0..1 of boolean; b : boolean; if (b) x[0] := 0; x[1] := 1; b := x[1]; }", valid) ∷
    -- of the other part of a `default`
    (codes "module main() { a, b, c : boolean; default a := 0; in if (c) b := 1; c := a; }", valid) ∷
    -- around a `default`
    (codes "module main() { a, b, c : boolean; if (c) { default a := 0; in b := 1; } c := a; }", fault 18 73) ∷
    -- of a `?:`, of `in` and of a comprehension
    (codes "module main() { a, b, c : boolean; y : 0..3; a := b ? 0 : 1; b := y in {1, c ? 2 : 3}; y := {i : i in 0..3, a}; }", fault 18 87) ∷ []

-- connections are assignments
abbrev pub modules : List (List ℕ × Answer)
modules =
    -- through one module, closed by its body
    (codes "module m(i, o) { input i : boolean; output o : boolean; o := ~i; } module main() { a : boolean; n : m(a, a); }", fault 18 56) ∷
    -- through two modules
    (codes "module m(i, o) { input i : boolean; output o : boolean; o := ~i; } module k(i, o) { input i : boolean; output o : boolean; o := i; } module main() { a, b : boolean; n : m(a, b); p : k(b, a); }", fault 18 123) ∷
    -- with a delay in one of them
    (codes "module m(i, o) { input i : boolean; output o : boolean; o := ~i; } module k(i, o) { input i : boolean; output o : boolean; next(o) := i; } module main() { a, b : boolean; n : m(a, b); p : k(b, a); }", valid) ∷
    -- through two instances of one module
    (codes "module m(i, o) { input i : boolean; output o : boolean; o := i; } module main() { a, b : boolean; n : m(a, b); p : m(b, a); }", fault 18 56) ∷
    -- closed by a connection
    (codes "module m(i) { input i : boolean; } module main() { a : boolean; a := n.i; n : m(a); }", fault 18 80) ∷
    -- in flat order the instance comes first
    (codes "module m() { y := y; y : boolean; } module main() { n : m(); a : boolean; a := a; }", fault 18 13) ∷ []

-- only base definitions make edges
abbrev pub base_definitions : List (List ℕ × Answer)
base_definitions =
    -- a definition in a layer is not one
    (codes "module main() { x : boolean; layer L : { x := x; } }", valid) ∷
    -- also where there is no other
    (codes "module main() { x, y : boolean; y := x; layer L : { x := y; } }", valid) ∷
    -- that of an abstract signal stands in the first layer
    (codes "module main() { abstract s : boolean; layer L : { s := s; } layer K : { s := 0; } }", fault 18 50) ∷
    -- and in no other
    (codes "module main() { abstract s : boolean; layer L : { s := 0; } layer K : { s := s; } }", valid) ∷
    -- a `next` alone in the first layer
    (codes "module main() { abstract s : boolean; layer L : { next(s) := s; } layer K : { s := s; } }", valid) ∷
    -- the first by its place, not by its layer
    (codes "module main() { abstract s, t : boolean; layer L : { t := 0; } layer K : { s := s; } layer L : { s := 0; } }", fault 18 75) ∷
    -- through two layers
    (codes "module main() { abstract s, t : boolean; layer L : { s := t; } layer K : { t := s; } }", fault 18 75) ∷ []

-- what a definition outside layers reads
abbrev pub reading : List (List ℕ × Answer)
reading =
    -- a condition of a base definition
    (codes "module main() { abstract s : boolean; x : boolean; if (s) x := 0; }", fault 19 55) ∷
    -- that of a `next`
    (codes "module main() { abstract s : boolean; x : boolean; if (s) next(x) := 0; }", fault 19 55) ∷
    -- a `next`
    (codes "module main() { abstract s : boolean; x : boolean; next(x) := x & s; }", fault 19 66) ∷
    -- an `init`
    (codes "module main() { abstract s : boolean; x : boolean; init(x) := s; }", fault 19 62) ∷
    -- an index of a left side
    (codes "module main() { abstract s : 0..1; x : array 0..1 of boolean; x[s] := 0; }", fault 19 64) ∷
    -- an index of a reference
    (codes "module main() { abstract s : 0..1; x, y : array 0..1 of boolean; x[0] := y[s]; }", fault 19 75) ∷
    -- the value of a `switch`
    (codes "module main() { abstract s : boolean; x : boolean; switch (s) { 0 : x := 0; default : x := 1; } }", fault 19 59) ∷
    -- under a reduction
    (codes "module main() { abstract s : array 0..1 of boolean; x : boolean; x := |[s[i] : i in 0..1]; }", fault 19 72) ∷
    -- a field
    (codes "module main() { abstract s : struct { a, b : boolean; }; x : boolean; x := s.b; }", fault 19 75) ∷
    -- an input of an instance
    (codes "module m(a) { input a : boolean; } module main() { abstract s : boolean; n : m(s); }", fault 19 79) ∷
    -- a condition around no assignment
    (codes "module main() { abstract s : boolean; x : boolean; if (s) { } x := 0; }", valid) ∷
    -- in a layer
    (codes "module main() { abstract s : boolean; x : boolean; layer L : { s := 0; if (s) x := s; } x := 0; }", valid) ∷
    -- in a claim
    (codes "module main() { abstract s : boolean; p : assert G s; }", valid) ∷
    -- the first of two
    (codes "module main() { abstract s, t : boolean; x, y : boolean; if (t) { x := s; y := t; } }", fault 19 61) ∷ []

-- an abstract signal assigned outside layers
abbrev pub assigning : List (List ℕ × Answer)
assigning =
    -- by `init`
    (codes "module main() { abstract s : boolean; init(s) := 0; layer L : { next(s) := s; } }", fault 20 38) ∷
    -- by `next`, from itself
    (codes "module main() { abstract s : boolean; next(s) := s; }", fault 20 38) ∷
    -- under an `if`
    (codes "module main() { abstract s : boolean; x : boolean; if (x) s := 0; }", fault 20 58) ∷
    -- the output of an instance
    (codes "module m(b) { output b : boolean; b := 1; } module main() { abstract s : boolean; n : m(s); }", fault 20 88) ∷
    -- in a layer
    (codes "module main() { abstract s : boolean; layer L : { s := 0; } layer K : { s := 1; } }", valid) ∷
    -- read before it is assigned
    (codes "module main() { abstract s : boolean; x : boolean; x := s; s := 0; }", fault 19 56) ∷
    -- assigned before it is read
    (codes "module main() { abstract s : boolean; x : boolean; s := 0; x := s; }", fault 20 51) ∷ []

-- loops are looked for before layers
abbrev pub passes : List (List ℕ × Answer)
passes =
    -- a loop behind
    (codes "module main() { abstract s : boolean; x, y : boolean; x := s; y := y; }", fault 18 62) ∷
    -- through an abstract signal
    (codes "module main() { abstract s : boolean; x : boolean; x := s; layer L : { s := x; } }", fault 18 71) ∷
    -- outside layers an abstract signal has no base definition
    (codes "module main() { abstract s : boolean; s := s; }", fault 20 38) ∷
    -- which is that of a layer, also of one behind
    (codes "module main() { abstract s : boolean; s := 0; layer L : { s := s; } }", fault 18 58) ∷ []

-- the reduced Tomasulo machine has none of these
abbrev pub tomasulo : List (List ℕ × Answer)
tomasulo = (machine, valid) ∷ []
