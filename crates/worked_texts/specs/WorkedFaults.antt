-- Worked texts by theme, each with the first fault of single assignment. Each answer was worked out by hand from the rules, the places too.
use Rattle.std.specs.Prelude.{ℕ, List, [], ◌∷◌, codes}
use Rattle.worked_texts.specs.Worked.{Answer, fault, valid}
use Rattle.worked_texts.specs.Tomasulo.{machine}

-- one text for each fault
abbrev pub rows : List (List ℕ × Answer)
rows =
    -- an element assigned twice
    (codes "module main() { x : boolean; x := 0; x := 1; }", fault 15 37) ∷
    -- `:=` beside `init`
    (codes "module main() { x : boolean; x := 0; init(x) := 0; }", fault 16 37) ∷
    -- a left side without the variable around it
    (codes "module main() { x : boolean; forall (i in 0..1) x := 0; }", fault 17 48) ∷ []

-- two assignments in different branches of an `if` or `switch`, or parts of a `default`, and two that are not
abbrev pub branches : List (List ℕ × Answer)
branches =
    -- the branches of an `if`
    (codes "module main() { x, c : boolean; if (c) x := 0; else x := 1; }", valid) ∷
    -- arms, and a default
    (codes "module main() { x, c : boolean; switch (c) { 0 : x := 0; 1 : x := 1; default : x := c; } }", valid) ∷
    -- the parts of a `default`
    (codes "module main() { x, c : boolean; default x := 0; in if (c) x := 1; }", valid) ∷
    -- twice in one branch
    (codes "module main() { x, c : boolean; if (c) { x := 0; x := 1; } else x := 1; }", fault 15 49) ∷
    -- twice in one arm
    (codes "module main() { x, c : boolean; switch (c) { 0 : { x := 0; x := 1; } default : x := c; } }", fault 15 59) ∷
    -- behind an `if`
    (codes "module main() { x, c : boolean; if (c) x := 0; else x := 1; x := 0; }", fault 15 60) ∷
    -- branches of two `if`s, though never at once
    (codes "module main() { x, c : boolean; if (c) x := 0; if (c) { } else x := 1; }", fault 15 63) ∷
    -- deep in branches of one `if`
    (codes "module main() { x, c : boolean; if (c) { if (x) x := 0; else { x := 1; } } else { default x := 0; in x := 1; } }", valid) ∷ []

-- two that differ at some index in two constants
abbrev pub constants : List (List ℕ × Answer)
constants =
    -- two numbers
    (codes "module main() { x : array 0..3 of boolean; y : array 0..1 of array 0..1 of boolean; c : boolean; x[0] := 0; x[1] := 1; }", valid) ∷
    -- at the second index
    (codes "module main() { x : array 0..3 of boolean; y : array 0..1 of array 0..1 of boolean; c : boolean; y[0][0] := 0; y[0][1] := 1; y[1][0] := 1; }", valid) ∷
    -- sums, differences and remainders are constants
    (codes "module main() { x : array 0..3 of boolean; y : array 0..1 of array 0..1 of boolean; c : boolean; x[3 - 1] := 0; x[1] := 1; x[(1 + 2) mod 4] := 0; }", valid) ∷
    -- of one value
    (codes "module main() { x : array 0..3 of boolean; y : array 0..1 of array 0..1 of boolean; c : boolean; x[0 + 1] := 0; x[3 mod 2] := 1; }", fault 15 112) ∷
    -- a constant that is Undefined differs from none
    (codes "module main() { x : array 0..3 of boolean; y : array 0..1 of array 0..1 of boolean; c : boolean; x[0 - 1] := 0; x[0] := 1; }", fault 15 112) ∷
    -- a signal is no constant
    (codes "module main() { x : array 0..3 of boolean; y : 0..3; x[y] := 0; x[0] := 1; }", fault 15 64) ∷
    -- a `forall` variable is no constant
    (codes "module main() { x : array 0..3 of boolean; y : array 0..1 of array 0..1 of boolean; c : boolean; forall (i in 0..3) x[i] := 0; x[0] := 1; }", fault 15 127) ∷
    -- also where no value of the variable is the constant
    (codes "module main() { x : array 0..3 of boolean; y : array 0..1 of array 0..1 of boolean; c : boolean; forall (i in 0..1) x[i] := 0; x[3] := 1; }", fault 15 127) ∷
    -- which the parts of a `default` may have
    (codes "module main() { x : array 0..3 of boolean; y : array 0..1 of array 0..1 of boolean; c : boolean; default forall (i in 0..3) x[i] := 0; in x[0] := 1; }", valid) ∷ []

-- conflicts are of one kind, one family and one definition set
abbrev pub kinds_and_sets : List (List ℕ × Answer)
kinds_and_sets =
    -- `init` and `next`
    (codes "module main() { x, c : boolean; init(x) := 0; next(x) := 1; }", valid) ∷
    -- `init` twice
    (codes "module main() { x, c : boolean; init(x) := 0; init(x) := 1; }", fault 15 46) ∷
    -- two families
    (codes "module main() { x, c : boolean; x := 0; c := 0; }", valid) ∷
    -- two layers, and outside layers
    (codes "module main() { x, c : boolean; layer L : { x := 0; } layer K : { x := 1; } x := 0; }", valid) ∷
    -- one layer in two places
    (codes "module main() { x, c : boolean; layer L : { x := 0; } layer K : { x := 1; } layer L : { x := 1; } }", fault 15 88) ∷
    -- one layer in two instances of different modules
    (codes "module m() { a : boolean; layer L : { a := 0; } } module main() { x, c : boolean; n : m(); layer L : { n.a := 1; } }", fault 15 103) ∷ []

-- the copies of a `for` are assignments of their own
abbrev pub loops : List (List ℕ × Answer)
loops =
    -- of one element
    (codes "module main() { x, c : boolean; for (k = 0; k < 2; k = k + 1) x := 0; }", fault 15 62) ∷
    -- of two elements
    (codes "module main() { x : array 0..3 of boolean; y : array 0..1 of array 0..1 of boolean; c : boolean; for (k = 0; k < 2; k = k + 1) x[k] := 0; }", valid) ∷
    -- of one `if`
    (codes "module main() { x : array 0..3 of boolean; y : array 0..1 of array 0..1 of boolean; c : boolean; for (k = 0; k < 2; k = k + 1) if (c) x[0] := 0; else x[1] := 0; }", fault 15 134) ∷
    -- which would be right alone
    (codes "module main() { x : array 0..3 of boolean; y : array 0..1 of array 0..1 of boolean; c : boolean; for (k = 0; k < 1; k = k + 1) if (c) x[0] := 0; else x[0] := 0; }", valid) ∷
    -- no copy
    (codes "module main() { x, c : boolean; for (k = 0; k < 0; k = k + 1) { x := 0; x := 1; } x := 1; }", valid) ∷
    -- one copy beside another assignment
    (codes "module main() { x : array 0..3 of boolean; y : array 0..1 of array 0..1 of boolean; c : boolean; for (k = 1; k < 4; k = k + 2) x[k] := 0; x[2] := 1; x[3] := 1; }", fault 15 149) ∷
    -- under a `forall`
    (codes "module main() { x : array 0..3 of boolean; y : array 0..1 of array 0..1 of boolean; c : boolean; forall (i in 0..1) for (k = 0; k < 2; k = k + 1) y[i][k] := 0; }", valid) ∷ []

-- in different branches or parts each `forall` variable around both stands bare at one index of both
abbrev pub shared_variables : List (List ℕ × Answer)
shared_variables =
    -- the crossing: by the values of i both parts give the element a result
    (codes "scalarset P undefined; module main() { x : array P of array P of boolean; forall (i in P) default { forall (j in P) x[i][j] := 0; } in { forall (j in P) x[j][i] := 1; } }", fault 15 153) ∷
    -- not crossed: i is shared, and each j is around one of them
    (codes "scalarset P undefined; module main() { x : array P of array P of boolean; forall (i in P) default { forall (j in P) x[i][j] := 0; } in { forall (j in P) x[i][j] := 1; } }", valid) ∷
    -- three ways: each two share an index, though no one index serves all three
    (codes "scalarset P undefined; module main() { x : array P of array P of array P of boolean; c, e : boolean; d : P; forall (i in P) if (c) x[i][i][d] := 0; else if (e) x[i][d][i] := 1; else x[d][i][i] := 0; }", valid) ∷
    -- bare at different indexes
    (codes "scalarset P undefined; module main() { x : array P of array P of boolean; c : boolean; d : P; forall (i in P) if (c) x[i][d] := 0; else x[d][i] := 1; }", fault 15 136) ∷
    -- told apart by two constants
    (codes "module main() { x : array 0..3 of boolean; y : array 0..1 of array 0..1 of boolean; c : boolean; forall (i in 0..1) if (c) y[i][0] := 0; else y[i][1] := 1; }", valid) ∷
    -- one of two variables is shared
    (codes "module main() { x : array 0..3 of boolean; y : array 0..1 of array 0..1 of boolean; c : boolean; forall (i in 0..1) forall (j in 0..1) if (c) y[i][j] := 0; else y[j][i] := 1; }", fault 15 161) ∷
    -- in arms of a `switch`
    (codes "scalarset P undefined; module main() { x : array P of array P of boolean; c : boolean; d : P; forall (i in P) switch (c) { 0 : x[i][d] := 0; 1 : x[i][i] := 1; default : x[d][i] := 0; } }", fault 15 169) ∷
    -- a variable that is around one of them alone
    (codes "scalarset P undefined; module main() { x : array P of array P of boolean; c : boolean; d : P; forall (i in P) x[i][i] := c; layer L : { default forall (i in P) x[i][d] := 0; in forall (i in P) x[d][i] := 1; } }", valid) ∷ []

-- `:=` beside `init` or `next`
abbrev pub beside : List (List ℕ × Answer)
beside =
    -- `next` first
    (codes "module main() { x, c : boolean; next(x) := 0; x := 1; }", fault 16 46) ∷
    -- branches do not excuse it
    (codes "module main() { x, c : boolean; if (c) x := 0; else next(x) := 1; }", fault 16 52) ∷
    -- nor does a `default`
    (codes "module main() { x, c : boolean; default x := 0; in init(x) := 1; }", fault 16 51) ∷
    -- two constants do
    (codes "module main() { x : array 0..3 of boolean; y : array 0..1 of array 0..1 of boolean; c : boolean; x[0] := 0; init(x[1]) := 0; next(x[1]) := 1; }", valid) ∷
    -- a variable beside a constant
    (codes "module main() { x : array 0..3 of boolean; y : array 0..1 of array 0..1 of boolean; c : boolean; x[0] := 0; forall (i in 0..1) next(x[i]) := 1; }", fault 16 127) ∷
    -- in two definition sets
    (codes "module main() { x, c : boolean; x := 0; layer L : { next(x) := 1; } }", valid) ∷ []

-- the variables of a left side
abbrev pub variables : List (List ℕ × Answer)
variables =
    -- each bare at an index, in any order
    (codes "module main() { x : array 0..3 of boolean; y : array 0..1 of array 0..1 of boolean; c : boolean; forall (i in 0..1) forall (j in 0..1) y[j][i] := 0; }", valid) ∷
    -- not alone at its index
    (codes "module main() { x : array 0..3 of boolean; y : array 0..1 of array 0..1 of boolean; c : boolean; forall (i in 0..1) x[i + 0] := 0; }", fault 17 116) ∷
    -- one for two
    (codes "module main() { x : array 0..3 of boolean; y : array 0..1 of array 0..1 of boolean; c : boolean; forall (i in 0..1) forall (j in 0..1) y[i][i] := 0; }", fault 17 135) ∷
    -- in the condition alone
    (codes "module main() { x : array 0..3 of boolean; y : array 0..1 of array 0..1 of boolean; c : boolean; forall (i in 0..1) if (i = 0) x[0] := 0; }", fault 17 127) ∷
    -- at two indexes
    (codes "module main() { x : array 0..3 of boolean; y : array 0..1 of array 0..1 of boolean; c : boolean; forall (i in 0..1) y[i][i] := 0; }", valid) ∷
    -- in a layer, under a `forall` of a statement
    (codes "module main() { x : array 0..3 of boolean; y : array 0..1 of array 0..1 of boolean; c : boolean; layer L : { forall (i in 0..1) { x[i] := 0; next(y[0][0]) := c; } } }", fault 17 141) ∷ []

-- the names in the brackets of a claim
abbrev pub claims : List (List ℕ × Answer)
claims =
    -- from the outside in
    (codes "module main() { forall (i in 0..1) forall (j in 0..1) p[i][j] : assert G (i = j); }", valid) ∷
    -- none, where there is a variable
    (codes "module main() { forall (i in 0..1) p : assert G (i = 0); }", fault 17 35) ∷
    -- from the inside out
    (codes "module main() { forall (i in 0..1) forall (j in 0..1) p[j][i] : assert G (i = j); }", fault 17 54) ∷
    -- one too many
    (codes "module main() { forall (i in 0..1) p[i][i] : assert G (i = 0); }", fault 17 35) ∷
    -- where there is no variable
    (codes "module main() { p[i] : assert G 1; }", fault 17 16) ∷ []

-- connections are assignments, at the argument
abbrev pub instances : List (List ℕ × Answer)
instances =
    -- an input's connection, and an assignment behind it
    (codes "module m(a) { input a : boolean; } module main() { x, c : boolean; n : m(x); n.a := 0; }", fault 15 77) ∷
    -- the body of the module stands behind the connection
    (codes "module m(a) { input a : boolean; a := 0; } module main() { n : m(1); }", fault 15 33) ∷
    -- an output is given to an assigned signal
    (codes "module m(b) { output b : boolean; b := 1; } module main() { x, c : boolean; x := 0; n : m(x); }", fault 15 90) ∷
    -- each instance has signals of its own
    (codes "module m(a) { input a : boolean; y : boolean; y := a; } module main() { x, c : boolean; n, o : m(x); }", valid) ∷ []

-- the least place counts, and at one place the least number
abbrev pub first : List (List ℕ × Answer)
first =
    -- 17 before 15
    (codes "module main() { x, y : boolean; x := 0; forall (i in 0..1) y := 0; x := 1; }", fault 17 59) ∷
    -- 15 before 17
    (codes "module main() { x, y : boolean; x := 0; x := 1; forall (i in 0..1) y := 0; }", fault 15 40) ∷
    -- 15 and 17 at one place
    (codes "module main() { x : array 0..3 of boolean; y : array 0..1 of array 0..1 of boolean; c : boolean; forall (i in 0..3) default x[i] := 0; in x[0] := 1; }", fault 15 138) ∷
    -- the least place may be that of a later statement
    (codes "module m() { y : boolean; y := 0; y := 1; } module main() { x, c : boolean; x := 0; x := 1; n : m(); }", fault 15 34) ∷ []

-- texts whose first fault is of a later pass
abbrev pub other_passes : List (List ℕ × Answer)
other_passes =
    -- a loop without delay
    (codes "module main() { a, b : boolean; a := b; b := a; }", valid) ∷
    -- a definition outside layers reads an abstract signal
    (codes "module main() { abstract s : boolean; x : boolean; layer L : { s := 0; } x := s; }", valid) ∷
    -- an abstract signal assigned outside layers
    (codes "module main() { abstract s : boolean; s := 0; }", valid) ∷
    -- a number met with a set type
    (codes "scalarset P undefined; module main() { a : P; p : assert G (a = 0); }", valid) ∷
    -- a `for` variable met with a set type
    (codes "scalarset P undefined; module main() { x : array P of boolean; for (n = 0; n < 2; n = n + 1) x[n] := 0; }", valid) ∷
    -- a split of no unit
    (codes "module main() { x : boolean; forall (i in 0..1) subcase s[i] of q for x = i; }", valid) ∷ []

-- the reduced Tomasulo machine
abbrev pub tomasulo : List (List ℕ × Answer)
tomasulo = (machine, valid) ∷ []
