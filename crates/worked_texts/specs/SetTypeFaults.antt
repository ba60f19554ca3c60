-- Worked texts by theme, each with the first fault of set types. Each answer was worked out by hand from the rules, the places too.
use Rattle.std.specs.Prelude.{ℕ, List, [], ◌∷◌, codes}
use Rattle.worked_texts.specs.Worked.{Answer, fault, valid}
use Rattle.worked_texts.specs.Tomasulo.{machine}

-- one text for each fault, those of the language's definition
abbrev pub rows : List (List ℕ × Answer)
rows =
    -- a number beside a value
    (codes "scalarset P undefined; module main() { a : P; p : assert G (a = 0); }", fault 21 64) ∷
    -- a `for` variable as an index
    (codes "scalarset P undefined; module main() { x : array P of boolean; for (n = 0; n < 2; n = n + 1) x[n] := 0; }", fault 22 95) ∷ []

-- the two sides of a comparison
abbrev pub comparisons : List (List ℕ × Answer)
comparisons =
    -- two values
    (codes "scalarset P undefined; module main() { a, b : P; p : assert G (a = b); }", valid) ∷
    -- a number to the left
    (codes "scalarset P undefined; module main() { a : P; p : assert G (1 ~= a); }", fault 21 60) ∷
    -- a signal that is a number
    (codes "scalarset P undefined; module main() { a : P; x : 0..3; p : assert G (a = x); }", fault 21 74) ∷
    -- a sum is at fault at its first number
    (codes "scalarset P undefined; module main() { a : P; x : 0..3; p : assert G (x + 1 = a); }", fault 21 70) ∷
    -- parentheses are passed over
    (codes "scalarset P undefined; module main() { a : P; x : 0..3; p : assert G (((x + 1)) = a); }", fault 21 72) ∷
    -- a comparison is a number
    (codes "scalarset P undefined; module main() { a, b : P; p : assert G ((a = b) = a); }", fault 21 64) ∷
    -- a negation at its sign
    (codes "scalarset P undefined; module main() { a : P; x : boolean; p : assert G (a = (~x)); }", fault 21 78) ∷
    -- a remainder at what it is of
    (codes "scalarset P undefined; module main() { a : P; x : 0..3; p : assert G (a = x mod 2); }", fault 21 74) ∷
    -- a reduction at its sign
    (codes "scalarset P undefined; module main() { a : P; p : assert G (a = &[i = a : i in P]); }", fault 21 64) ∷
    -- a variable of a `forall` over a range
    (codes "scalarset P undefined; module main() { a : P; forall (i in 0..1) p[i] : assert G (a = i); }", fault 21 86) ∷
    -- over the set type
    (codes "scalarset P undefined; module main() { a : P; forall (i in P) p[i] : assert G (a = i); }", valid) ∷
    -- in a reduction
    (codes "scalarset P undefined; module main() { a : P; p : assert G |[i = 0 : i in P]; }", fault 21 65) ∷
    -- two set types do not meet here
    (codes "scalarset P undefined; scalarset D 0..2; module main() { a : P; b : D; p : assert G (a = a & b = b); }", valid) ∷
    -- numbers alone
    (codes "scalarset P undefined; module main() { a : P; p : assert G (0 = 1 -> a = a); }", valid) ∷
    -- an element of an array
    (codes "scalarset P undefined; module main() { w : array P of P; a : P; p : assert G (w[a] = 0); }", fault 21 85) ∷
    -- values that differ
    (codes "scalarset P undefined; module main() { a : P; forall (i in P) p[i] : assert G (i ~= a | a = i); }", valid) ∷ []

-- a scalarset lacks `<`, `<=`, `>` and `>=`
abbrev pub orders : List (List ℕ × Answer)
orders =
    -- both sides: the first
    (codes "scalarset P undefined; module main() { a, b : P; p : assert G (a < b); }", fault 21 63) ∷
    -- a declared scalarset too
    (codes "scalarset D 0..2; module main() { a, b : D; p : assert G (a = b | b >= a); }", fault 21 66) ∷
    -- an ordset has them
    (codes "ordset I undefined; module main() { a, b : I; p : assert G (a < b | a <= b | a > b | a >= b); }", valid) ∷
    -- an ordset and a number
    (codes "ordset I undefined; module main() { a : I; p : assert G (a <= 1); }", fault 21 62) ∷
    -- a scalarset and a number: the first
    (codes "scalarset P undefined; module main() { a : P; p : assert G (a > 1); }", fault 21 60) ∷
    -- a number and a scalarset
    (codes "scalarset P undefined; module main() { a : P; p : assert G (1 > a); }", fault 21 60) ∷
    -- `=` and `~=` they have
    (codes "scalarset P undefined; module main() { a, b : P; p : assert G (a = b | a ~= b); }", valid) ∷
    -- numbers have the orders
    (codes "scalarset P undefined; module main() { a : P; x : 0..3; p : assert G (x < 2); }", valid) ∷
    -- of variables over an ordset
    (codes "ordset I undefined; module main() { forall (i in I) forall (j in I) p[i][j] : assert G (i < j -> j > i & i <= j & j >= i); }", valid) ∷
    -- a number and an ordset
    (codes "ordset I undefined; module main() { a : I; p : assert G (1 < a); }", fault 21 57) ∷
    -- of variables over a scalarset
    (codes "scalarset P undefined; module main() { forall (i in P) forall (j in P) p[i][j] : assert G (i = j | i <= j); }", fault 21 99) ∷ []

-- the left part and the members of an `in`
abbrev pub within : List (List ℕ × Answer)
within =
    -- a number among the members
    (codes "scalarset P undefined; module main() { a, b : P; p : assert G (a in {b, 0}); }", fault 21 72) ∷
    -- each number
    (codes "scalarset P undefined; module main() { a, b : P; p : assert G (a in {0, b, 1}); }", fault 21 69) ∷
    -- a span at its first number
    (codes "scalarset P undefined; module main() { a : P; p : assert G (a in {1..2}); }", fault 21 66) ∷
    -- a number to the left
    (codes "scalarset P undefined; module main() { a : P; p : assert G (1 in {a}); }", fault 21 60) ∷
    -- a number to the left of numbers and a value
    (codes "scalarset P undefined; module main() { a : P; p : assert G (1 in {0, a}); }", fault 21 60) ∷
    -- values
    (codes "scalarset P undefined; module main() { a, b : P; p : assert G (a in {b, a}); }", valid) ∷
    -- numbers
    (codes "scalarset P undefined; module main() { a : P; p : assert G (1 in {0, 2..3}); }", valid) ∷
    -- a span behind a value
    (codes "scalarset P undefined; module main() { a, b : P; p : assert G (a in {b, 1..2}); }", fault 21 72) ∷
    -- a variable
    (codes "scalarset P undefined; module main() { a : P; forall (i in P) p[i] : assert G (i in {a, i}); }", valid) ∷ []

-- the members of a listed set
abbrev pub lists : List (List ℕ × Answer)
lists =
    -- a number beside a value
    (codes "scalarset P undefined; module main() { a, b : P; a := {b, 1}; }", fault 21 58) ∷
    -- a number before a value
    (codes "scalarset P undefined; module main() { a, b : P; next(a) := {1, b}; }", fault 21 61) ∷
    -- values
    (codes "scalarset P undefined; module main() { a, b : P; a := {b, b}; }", valid) ∷
    -- a branch of `?:`
    (codes "scalarset P undefined; module main() { a, b : P; a := b = b ? {b, 1} : b; }", fault 21 66) ∷
    -- a span at its first number
    (codes "scalarset P undefined; module main() { a, b : P; a := {b, 1..2}; }", fault 21 58) ∷ []

-- the branches of `?:`
abbrev pub branches : List (List ℕ × Answer)
branches =
    -- a number to the left
    (codes "scalarset P undefined; module main() { a, b : P; a := b = b ? 1 : b; }", fault 21 62) ∷
    -- a number to the right
    (codes "scalarset P undefined; module main() { a, b : P; p : assert G ((a = b ? a : 1) = a); }", fault 21 76) ∷
    -- what mixes them is a value of the set type
    (codes "scalarset P undefined; module main() { a, b : P; x : boolean; p : assert G (0 = (x ? 1 : b)); }", fault 21 76) ∷
    -- and so it is no number for its target
    (codes "scalarset P undefined; module main() { a, b : P; x : boolean; a := x ? b : 1; }", fault 21 75) ∷
    -- values
    (codes "scalarset P undefined; module main() { a, b : P; x : boolean; a := x ? b : b; }", valid) ∷
    -- a list that mixes them, beside a number
    (codes "scalarset P undefined; module main() { a, b : P; x : boolean; a := x ? 1 : {b, 0}; }", fault 21 71) ∷
    -- values in a comparison
    (codes "scalarset P undefined; module main() { a, b : P; x : boolean; p : assert G ((x ? a : b) = a); }", valid) ∷ []

-- the value of a `switch` and its labels
abbrev pub labels : List (List ℕ × Answer)
labels =
    -- a number as a label
    (codes "scalarset P undefined; module main() { a : P; x : boolean; switch (a) { 1 : x := 0; } }", fault 21 72) ∷
    -- in the second arm
    (codes "scalarset P undefined; module main() { a, b : P; x : boolean; switch (a) { b : x := 0; 0 : x := 1; } }", fault 21 87) ∷
    -- a number as the value
    (codes "scalarset P undefined; module main() { a, b : P; x : boolean; switch (1) { a : x := 0; default : x := 1; } }", fault 21 70) ∷
    -- a number as the value, with labels of both kinds
    (codes "scalarset P undefined; module main() { a, b : P; x : boolean; switch (1) { 0 : x := 0; a : x := 1; } }", fault 21 70) ∷
    -- values
    (codes "scalarset P undefined; module main() { a, b : P; x : boolean; switch (a) { b : x := 0; default : x := 1; } }", valid) ∷
    -- numbers
    (codes "scalarset P undefined; module main() { a : P; x : 0..2; switch (x) { 0, 1 : next(x) := 0; } }", valid) ∷
    -- no arm
    (codes "scalarset P undefined; module main() { a : P; x : array P of boolean; switch (x[0]) { } }", valid) ∷ []

-- the value of a target of a set type
abbrev pub targets : List (List ℕ × Answer)
targets =
    -- a number
    (codes "scalarset P undefined; module main() { a : P; a := 0; }", fault 21 51) ∷
    -- in `init`
    (codes "scalarset P undefined; module main() { a : P; init(a) := 0; }", fault 21 57) ∷
    -- a list of numbers, as a whole
    (codes "scalarset P undefined; module main() { a : P; a := {0, 1}; }", fault 21 51) ∷
    -- `?:` of numbers, as a whole
    (codes "scalarset P undefined; module main() { a : P; x : boolean; a := x ? 0 : 1; }", fault 21 64) ∷
    -- a comprehension over a range
    (codes "scalarset P undefined; module main() { a : P; a := {i : i in 0..1}; }", fault 21 51) ∷
    -- a comprehension over the set type
    (codes "scalarset P undefined; module main() { a : P; a := {i : i in P}; }", valid) ∷
    -- with a condition that meets a number
    (codes "scalarset P undefined; module main() { a : P; next(a) := {i : i in P, i = 0}; }", fault 21 74) ∷
    -- in a layer
    (codes "scalarset P undefined; module main() { a : P; layer L : { a := 0; } }", fault 21 63) ∷
    -- under a `forall`
    (codes "scalarset P undefined; module main() { w : array P of P; forall (i in P) w[i] := 1; }", fault 21 81) ∷
    -- under an `if`
    (codes "scalarset P undefined; module main() { a : P; x : boolean; if (x) next(a) := a; else next(a) := 1; }", fault 21 96) ∷
    -- a value
    (codes "scalarset P undefined; module main() { a, b : P; a := b; }", valid) ∷
    -- a number for a number
    (codes "scalarset P undefined; module main() { a : P; x : 0..3; x := 2; }", valid) ∷
    -- an argument
    (codes "scalarset P undefined; module m(a) { input a : P; } module main() { n : m(1); }", fault 21 74) ∷
    -- an argument that is a value
    (codes "scalarset P undefined; module m(a) { input a : P; } module main() { b : P; n : m(b); }", valid) ∷
    -- a number for a value of a declared scalarset
    (codes "scalarset D 0..2; module main() { a : D; a := 1; }", fault 21 46) ∷
    -- for a value of an ordset
    (codes "ordset I undefined; module main() { a : I; init(a) := 0; }", fault 21 54) ∷ []

-- an index over a set type
abbrev pub indexes : List (List ℕ × Answer)
indexes =
    -- a number in a left side
    (codes "scalarset P undefined; module main() { x : array P of boolean; x[0] := 0; }", fault 21 65) ∷
    -- a sum
    (codes "scalarset P undefined; module main() { x : array P of boolean; p : assert G x[0 + 1]; }", fault 21 78) ∷
    -- the second index
    (codes "scalarset P undefined; module main() { x : array 0..1 of array P of boolean; p : assert G x[0][1]; }", fault 21 95) ∷
    -- a value
    (codes "scalarset P undefined; module main() { a : P; x : array P of boolean; p : assert G x[a]; }", valid) ∷
    -- a number over a range
    (codes "scalarset P undefined; module main() { a : P; x : array 0..1 of P; p : assert G (x[1] = a); }", valid) ∷
    -- in an index
    (codes "scalarset P undefined; module main() { w : array P of P; x : array P of boolean; p : assert G x[w[0]]; }", fault 21 98) ∷
    -- the argument of an output
    (codes "scalarset P undefined; module m(b) { output b : boolean; b := 0; } module main() { x : array P of boolean; n : m(x[0]); }", fault 21 115) ∷
    -- a number over an ordset
    (codes "ordset I undefined; module main() { x : array I of boolean; p : assert G x[0]; }", fault 21 75) ∷ []

-- a `for` variable that stands as the number
abbrev pub loops : List (List ℕ × Answer)
loops =
    -- beside a value
    (codes "scalarset P undefined; module main() { a : P; x : array 0..1 of boolean; for (n = 0; n < 2; n = n + 1) if (a = n) init(x[n]) := 0; }", fault 22 111) ∷
    -- alone in parentheses
    (codes "scalarset P undefined; module main() { a : P; x : array 0..1 of boolean; for (n = 0; n < 2; n = n + 1) if ((n) ~= a) init(x[n]) := 0; }", fault 22 108) ∷
    -- a sum is a number
    (codes "scalarset P undefined; module main() { a : P; x : array 0..1 of boolean; for (n = 0; n < 2; n = n + 1) if (a = n + 1) init(x[n]) := 0; }", fault 21 111) ∷
    -- as a value
    (codes "scalarset P undefined; module main() { x : array 0..1 of P; for (n = 0; n < 2; n = n + 1) x[n] := n; }", fault 22 98) ∷
    -- in a list with a value
    (codes "scalarset P undefined; module main() { a : P; x : array 0..1 of P; for (n = 0; n < 2; n = n + 1) x[n] := {a, n}; }", fault 22 109) ∷
    -- a list of it is a number as a whole
    (codes "scalarset P undefined; module main() { x : array 0..1 of P; for (n = 0; n < 2; n = n + 1) x[n] := {n}; }", fault 21 98) ∷
    -- as a member
    (codes "scalarset P undefined; module main() { a : P; x : array 0..1 of boolean; for (n = 0; n < 2; n = n + 1) x[n] := a in {a, n}; }", fault 22 120) ∷
    -- left of `in`
    (codes "scalarset P undefined; module main() { a : P; x : array 0..1 of boolean; for (n = 0; n < 2; n = n + 1) x[n] := n in {a}; }", fault 22 111) ∷
    -- as a branch
    (codes "scalarset P undefined; module main() { a : P; x : array 0..1 of P; for (n = 0; n < 2; n = n + 1) x[n] := a = a ? n : a; }", fault 22 113) ∷
    -- as a label
    (codes "scalarset P undefined; module main() { a : P; x : array 0..1 of boolean; for (n = 0; n < 2; n = n + 1) switch (a) { n : x[n] := 0; } }", fault 22 116) ∷
    -- beside an order
    (codes "ordset I undefined; module main() { a : I; x : array 0..1 of boolean; for (n = 0; n < 2; n = n + 1) x[n] := a < n; }", fault 22 112) ∷
    -- over a range it may stand
    (codes "scalarset P undefined; module main() { a : P; x : array 0..1 of boolean; for (n = 0; n < 2; n = n + 1) x[n] := n = 0; }", valid) ∷
    -- no turn
    (codes "scalarset P undefined; module main() { x : array P of boolean; for (n = 0; n < 0; n = n + 1) x[n] := 0; }", valid) ∷
    -- of two loops
    (codes "scalarset P undefined; module main() { x : array 0..1 of array P of boolean; for (n = 0; n < 2; n = n + 1) for (m = 0; m < 1; m = m + 1) x[n][m] := 0; }", fault 22 142) ∷ []

-- what is looked at
abbrev pub reach : List (List ℕ × Answer)
reach =
    -- a module that is not used
    (codes "scalarset P undefined; module m() { a : P; a := 0; } module main() { b : P; }", valid) ∷
    -- a module that is
    (codes "scalarset P undefined; module m() { a : P; a := 0; } module main() { n : m(); }", fault 21 48) ∷
    -- an expression in an equation of a split
    (codes "scalarset P undefined; module main() { a : P; x : array P of 0..1; p : assert G 1; forall (i in 0..1) subcase s[i] of p for x[0] = i; }", fault 21 126) ∷
    -- a number for a parameter of a set type is left to the faults of splits
    (codes "scalarset P undefined; module main() { p : assert G 1; forall (i in P) subcase s[i] of p for 1 = i; }", valid) ∷
    -- a formal of a set type
    (codes "scalarset P undefined; module m(a) { input a : P; p : assert G (a = 1); } module main() { b : P; n : m(b); }", fault 21 68) ∷ []

-- the least place counts, and 21 before 22 at one place
abbrev pub first : List (List ℕ × Answer)
first =
    -- 22 before 21
    (codes "scalarset P undefined; module main() { a : P; x : array 0..1 of boolean; for (n = 0; n < 2; n = n + 1) if (a = n) x[n] := a = 0; }", fault 22 111) ∷
    -- 21 before 22
    (codes "scalarset P undefined; module main() { a : P; x : array 0..1 of boolean; for (n = 0; n < 2; n = n + 1) x[n] := a = 0 | a = n; }", fault 21 115) ∷
    -- in the text, not in flat order
    (codes "scalarset P undefined; module m() { a : P; next(a) := 0; } module main() { b : P; next(b) := 0; n : m(); }", fault 21 54) ∷
    -- an order and a number in it
    (codes "ordset I undefined; scalarset P undefined; module main() { a, b : P; p : assert G (a < (a = b ? 0 : b)); }", fault 21 83) ∷ []

-- the reduced Tomasulo machine
abbrev pub tomasulo : List (List ℕ × Answer)
tomasulo = (machine, valid) ∷ []
