-- Worked texts on kinds by theme, each with its first fault. A fault's place was found by hand.
use Rattle.std.specs.Prelude.{ℕ, List, [], ◌∷◌, codes}
use Rattle.worked_texts.specs.KindsWorked.{Answer, fault, valid}

-- one text for each fault
abbrev pub rows : List (List ℕ × Answer)
rows =
    -- a number and a constant
    (codes "module main() { x : boolean; c : {red}; p : assert G (x = red); }", fault 12 58) ∷
    -- a range from above to below
    (codes "module main() { x : 3..2; }", fault 13 20) ∷
    -- a set beside `=`
    (codes "module main() { x : boolean; p : assert G (x = {0, 1}); }", fault 14 47) ∷ []

-- texts whose first fault is of a later pass, or that have none
abbrev pub other_passes : List (List ℕ × Answer)
other_passes =
    (codes "module main() { x : boolean; x := 0; x := 1; }", valid) ∷
    (codes "module main() { x : boolean; x := 0; init(x) := 0; }", valid) ∷
    (codes "module main() { x : boolean; forall (i in 0..1) x := 0; }", valid) ∷
    (codes "module main() { abstract s : boolean; x : boolean; layer L : { s := 0; } x := s; }", valid) ∷
    -- a number beside a value of a set type
    (codes "scalarset P undefined; module main() { a : P; p : assert G (a = 0); }", valid) ∷
    -- a `for` variable as an index over a set type
    (codes "scalarset P undefined; module main() { x : array P of boolean; for (n = 0; n < 2; n = n + 1) x[n] := 0; }", valid) ∷
    -- the expression of a split has another kind than its parameter
    (codes "module main() { x : {red}; p : assert G 1; forall (i in 0..1) subcase s[i] of p for x = i; }", valid) ∷
    (codes "module main() { x : array 0..255 of 0..255; n : 0..255; p : assert G (x[n] = 0); }", valid) ∷
    -- mutual exclusion
    (codes "scalarset P undefined; module main() { tok : P; crit : array P of boolean; forall (i in P) crit[i] := tok = i; forall (i in P) forall (j in P) mutex[i][j] : assert G (crit[i] & crit[j] -> i = j); }", valid) ∷ []

-- logic and arithmetic take numbers
abbrev pub logic : List (List ℕ × Answer)
logic =
    -- a constant under `~`
    (codes "module main() { c : {red}; p : assert G ~c; }", fault 12 41) ∷
    -- a constant under `&`
    (codes "module main() { x : boolean; c : {red}; p : assert G (x & c | x); }", fault 12 58) ∷
    -- a constant before `->`
    (codes "module main() { p : assert G (red -> 1); c : {red}; }", fault 12 30) ∷
    -- a constant behind `<->`
    (codes "module main() { x : boolean; c : {red}; p : assert G (x <-> c); }", fault 12 60) ∷
    -- a value of a set type under `|`
    (codes "scalarset P undefined; module main() { a : P; x : boolean; p : assert G (x | a); }", fault 12 77) ∷
    -- a constant in a difference
    (codes "module main() { x : 0..3; c : {red}; x := 1 - red; }", fault 12 46) ∷
    -- a value of a set type in a sum
    (codes "scalarset P undefined; module main() { a : P; x : 0..3; x := x + 1 + a; }", fault 12 69) ∷
    -- a value of a set type before `mod`
    (codes "scalarset P undefined; module main() { a : P; x : 0..3; x := a mod 2; }", fault 12 61) ∷
    -- `mod 0`
    (codes "module main() { x : 0..3; x := x mod 0; }", fault 12 37) ∷
    -- `mod 00`, behind a sum
    (codes "module main() { x : 0..3; p : assert G ((x + 1) mod 00 = 0); }", fault 12 52) ∷
    -- numbers everywhere
    (codes "module main() { x : 0..3; p : assert G (~x & (x | x -> x <-> x + 1 - x mod 3)); }", valid) ∷ []

-- conditions and what is reduced are numbers, and so is a claim
abbrev pub conditions : List (List ℕ × Answer)
conditions =
    -- the condition of an `if`
    (codes "module main() { x : boolean; c : {red}; if (c) x := 0; }", fault 12 44) ∷
    -- the same of a set type
    (codes "scalarset P undefined; module main() { x : boolean; a : P; if (a) x := 0; }", fault 12 63) ∷
    -- the condition of `?:`
    (codes "module main() { x : boolean; c : {red}; x := c ? 0 : 1; }", fault 12 45) ∷
    -- the same of a set type
    (codes "scalarset P undefined; module main() { x : boolean; a : P; p : assert G ((a ? 0 : 1) = x); }", fault 12 74) ∷
    -- the condition of a comprehension
    (codes "module main() { x : boolean; c : {red}; x := {i : i in 0..1, c}; }", fault 12 61) ∷
    -- the same of a set type
    (codes "scalarset P undefined; module main() { a : P; a := {i : i in P, i}; }", fault 12 64) ∷
    -- what is reduced
    (codes "module main() { c : {red}; p : assert G &[ c : i in 0..1 ]; }", fault 12 43) ∷
    -- a variable over a set type that is reduced
    (codes "scalarset P undefined; module main() { p : assert G |[ i : i in P ]; }", fault 12 55) ∷
    -- a claim that is a constant
    (codes "module main() { c : {red}; p : assert G c; }", fault 12 40) ∷
    -- a claim that is a value of a set type
    (codes "scalarset P undefined; module main() { a : P; p : assert G ((a)); }", fault 12 61) ∷
    -- a claim under a `forall` over a set type
    (codes "scalarset P undefined; module main() { forall (i in P) p[i] : assert G i; }", fault 12 71) ∷
    -- conditions that are numbers
    (codes "scalarset P undefined; module main() { a : P; x : 0..7; if (x + 1) x := a = a ? 5 : 6; p : assert G x; }", valid) ∷ []

-- the two sides of `=` and `~=` have one kind, and the right one is at fault
abbrev pub sides : List (List ℕ × Answer)
sides =
    -- a constant, and then a number
    (codes "module main() { x : boolean; c : {red}; p : assert G (red = x); }", fault 12 60) ∷
    -- constants of two lists
    (codes "module main() { c : {red}; d : {blue}; p : assert G (c ~= d); }", fault 12 58) ∷
    -- two declarations of one list
    (codes "module main() { c : {red, green}; d : {red, green}; p : assert G (c = d & c ~= green); }", valid) ∷
    -- a value of a set type and a constant
    (codes "scalarset P undefined; module main() { a : P; c : {red}; p : assert G (a = c); }", fault 12 75) ∷
    -- a constant and a value of a set type
    (codes "scalarset P undefined; module main() { a : P; c : {red}; p : assert G (red ~= a); }", fault 12 78) ∷
    -- values of two set types
    (codes "scalarset P undefined; scalarset Q undefined; module main() { a : P; b : Q; p : assert G (a = b); }", fault 12 94) ∷
    -- two names of one set type
    (codes "scalarset P undefined; typedef t P; module main() { a : P; b : t; p : assert G (a = b); }", valid) ∷
    -- two ranges
    (codes "module main() { x : 0..3; y : 5..9; p : assert G (x = y); }", valid) ∷
    -- a variable over a set type and one over a range
    (codes "scalarset P undefined; module main() { c : {red}; forall (i in P) forall (j in 0..1) p[i][j] : assert G (i = j | i = red); }", fault 12 117) ∷
    -- a comparison is a number
    (codes "module main() { c : {red}; p : assert G ((c = red) = red); }", fault 12 53) ∷ []

-- an expression is placed at its first token other than `(`
abbrev pub first_tokens : List (List ℕ × Answer)
first_tokens =
    -- in parentheses
    (codes "module main() { x : boolean; c : {red}; p : assert G (x = ((red))); }", fault 12 60) ∷
    -- a sum whose first part stands in parentheses
    (codes "module main() { x : boolean; c : {red}; p : assert G (c = (((x) + 1))); }", fault 12 61) ∷
    -- a sign
    (codes "module main() { x : boolean; c : {red}; p : assert G (c = (~x)); }", fault 12 59) ∷
    -- a chain
    (codes "module main() { x : boolean; c : {red}; p : assert G (c = ((x & x) | x)); }", fault 12 60) ∷
    -- an implication
    (codes "module main() { x : boolean; c : {red}; p : assert G (c = (x -> x)); }", fault 12 59) ∷
    -- an equivalence
    (codes "module main() { x : boolean; c : {red}; p : assert G (c = (1 <-> x)); }", fault 12 59) ∷
    -- a comparison
    (codes "module main() { x : boolean; c : {red}; p : assert G (c = (x < 1)); }", fault 12 59) ∷
    -- `in`
    (codes "module main() { x : boolean; c : {red}; p : assert G (c = (x in {0})); }", fault 12 59) ∷
    -- a remainder
    (codes "module main() { x : boolean; c : {red}; p : assert G (c = x mod 2); }", fault 12 58) ∷
    -- `?:`, at its condition
    (codes "module main() { x : boolean; c : {red}; p : assert G (c = (x = 0 ? 0 : 1)); }", fault 12 59) ∷
    -- a reduction
    (codes "module main() { c : {red}; p : assert G (c = &[ i : i in 0..1 ] | c = |[ i : i in 0..1 ]); }", fault 12 45) ∷
    -- a path with an index
    (codes "module main() { y : array 0..1 of boolean; c : {red}; p : assert G (c = y[0]); }", fault 12 72) ∷ []

-- orders take two numbers or two values of one set type
abbrev pub orders : List (List ℕ × Answer)
orders =
    -- a number and a constant
    (codes "module main() { x : boolean; c : {red}; p : assert G (x < red); }", fault 12 58) ∷
    -- a constant and a number
    (codes "module main() { x : boolean; c : {red}; p : assert G (red >= x); }", fault 12 54) ∷
    -- two constants of one list
    (codes "module main() { c : {red, green}; p : assert G (c <= green); }", fault 12 48) ∷
    -- a constant and a value of a set type
    (codes "scalarset P undefined; module main() { a : P; c : {red}; p : assert G (c > a); }", fault 12 71) ∷
    -- a value of a set type and a constant
    (codes "scalarset P undefined; module main() { a : P; c : {red}; p : assert G (a > c); }", fault 12 75) ∷
    -- values of two set types
    (codes "scalarset P undefined; scalarset Q undefined; module main() { a : P; b : Q; p : assert G (a < b); }", fault 12 94) ∷
    -- an order that a scalarset lacks is left to the rules of set types
    (codes "scalarset P undefined; module main() { a, b : P; p : assert G (a < b); }", valid) ∷
    -- an ordset
    (codes "ordset P undefined; module main() { a, b : P; p : assert G (a <= b & b > a); }", valid) ∷
    -- a number and a value of a set type are left to these rules too
    (codes "scalarset P undefined; module main() { a : P; p : assert G (a < 1 | 1 >= a); }", valid) ∷
    -- ranges and sums
    (codes "module main() { x : 0..3; p : assert G (x + 1 < 4); }", valid) ∷ []

-- the left part of `in` and the members have one kind
abbrev pub members : List (List ℕ × Answer)
members =
    -- a constant among numbers
    (codes "module main() { x : boolean; c : {red}; p : assert G (x in {0, red, 1}); }", fault 12 63) ∷
    -- a number among constants
    (codes "module main() { c : {red, green}; p : assert G (c in {red, 0, green}); }", fault 12 59) ∷
    -- a span for a constant
    (codes "module main() { c : {red}; p : assert G (c in {1..2}); }", fault 12 47) ∷
    -- a constant behind a span
    (codes "module main() { x : boolean; c : {red}; p : assert G (x in {0..1, red}); }", fault 12 66) ∷
    -- a constant of another list
    (codes "module main() { c : {red}; d : {blue}; p : assert G (c in {red, blue}); }", fault 12 64) ∷
    -- a value of a set type and a constant
    (codes "scalarset P undefined; module main() { a : P; c : {red}; p : assert G (a in {0, red}); }", fault 12 80) ∷
    -- numbers and values of one set type are left to the rules of set types
    (codes "scalarset P undefined; module main() { a : P; x : boolean; p : assert G (a in {0, a, 1..2} | x in {a, 1} | 0 in {a}); }", valid) ∷
    -- values of two set types
    (codes "scalarset P undefined; scalarset Q undefined; module main() { a : P; b : Q; p : assert G (a in {0, b}); }", fault 12 99) ∷
    -- the same beside a number
    (codes "scalarset P undefined; scalarset Q undefined; module main() { a : P; b : Q; p : assert G (0 in {a, b}); }", fault 12 99) ∷
    -- the first misfit counts
    (codes "module main() { x : boolean; c : {red}; p : assert G (x in {0, red, 1, red}); }", fault 12 63) ∷
    -- members that are made of others
    (codes "module main() { x : boolean; c : {red}; p : assert G (c in {red, (x + 1)}); }", fault 12 66) ∷ []

-- the members of a listed set have one kind, which is that of the first
abbrev pub listed_sets : List (List ℕ × Answer)
listed_sets =
    -- a constant among numbers
    (codes "module main() { x : boolean; c : {red}; x := {0, red, 1}; }", fault 12 49) ∷
    -- a number among constants
    (codes "module main() { c : {red, green}; c := {red, 0, green}; }", fault 12 45) ∷
    -- a set that begins with a constant, for a number
    (codes "module main() { x : boolean; c : {red}; x := {red, 0}; }", fault 12 45) ∷
    -- a set that begins with a number, for a constant
    (codes "module main() { c : {red}; c := {0, red}; }", fault 12 32) ∷
    -- a span for a constant
    (codes "module main() { c : {red}; c := {0..1}; }", fault 12 32) ∷
    -- a value of a set type and a constant
    (codes "scalarset P undefined; module main() { a : P; c : {red}; a := {a, red}; }", fault 12 66) ∷
    -- a number and values of a set type
    (codes "scalarset P undefined; module main() { a : P; a := {0, a, 1..2}; }", valid) ∷
    -- numbers and then values of two set types
    (codes "scalarset P undefined; scalarset Q undefined; module main() { a : P; b : Q; a := {0, a, b}; }", fault 12 88) ∷
    -- a comprehension for a constant
    (codes "module main() { c : {red}; c := {i : i in 0..1}; }", fault 12 32) ∷
    -- a comprehension over a set type for a number
    (codes "scalarset P undefined; module main() { x : boolean; x := {i : i in P}; }", fault 12 57) ∷
    -- comprehensions that fit, and one of numbers for a set type
    (codes "scalarset P undefined; module main() { a, b : P; x : boolean; x := {i : i in 0..1, i = x}; a := {i : i in P, i = a}; b := {i : i in 0..1}; }", valid) ∷ []

-- the two branches of `?:` have one kind, which is that of the left
abbrev pub branches : List (List ℕ × Answer)
branches =
    -- a number and a constant
    (codes "module main() { x : boolean; c : {red}; x := x ? 0 : red; }", fault 12 53) ∷
    -- a constant and a number, for a number
    (codes "module main() { x : boolean; c : {red}; x := x ? red : 0; }", fault 12 45) ∷
    -- a constant and a number, beside a constant
    (codes "module main() { x : boolean; c : {red}; p : assert G ((x ? red : 0) = red); }", fault 12 65) ∷
    -- a number and a constant, beside a constant
    (codes "module main() { x : boolean; c : {red}; p : assert G (red = (x ? 0 : red)); }", fault 12 61) ∷
    -- constants of two lists
    (codes "module main() { x : boolean; c : {red}; d : {blue}; c := x ? red : (blue); }", fault 12 68) ∷
    -- values of two set types
    (codes "scalarset P undefined; scalarset Q undefined; module main() { x : boolean; a : P; b : Q; a := x ? a : b; }", fault 12 102) ∷
    -- a branch that is a set
    (codes "module main() { x : boolean; c : {red}; x := x ? 0 : {red}; }", fault 12 53) ∷
    -- a branch that is a `?:`
    (codes "module main() { x : boolean; c : {red}; x := x ? 0 : (x ? red : red); }", fault 12 54) ∷
    -- branches of one kind
    (codes "scalarset P undefined; module main() { x : boolean; a : P; c : {red, green}; x := x ? 0 : {1}; a := x ? a : {i : i in P}; c := x ? red : x ? green : c; }", valid) ∷ []

-- a set or `?:` with numbers and values of a set type counts as a value of that set type
abbrev pub mixes : List (List ℕ × Answer)
mixes =
    -- beside a value of another set type
    (codes "scalarset P undefined; scalarset Q undefined; module main() { x : boolean; a : P; b : Q; p : assert G ((x ? 0 : a) = b); }", fault 12 117) ∷
    -- beside a constant
    (codes "scalarset P undefined; module main() { x : boolean; a : P; c : {red}; p : assert G ((x ? a : 0) = red); }", fault 12 98) ∷
    -- under logic
    (codes "scalarset P undefined; module main() { x : boolean; a : P; p : assert G ~(x ? 0 : a); }", fault 12 74) ∷
    -- as a condition
    (codes "scalarset P undefined; module main() { x : boolean; a : P; if (x ? a : 0) x := 0; }", fault 12 63) ∷
    -- as a claim
    (codes "scalarset P undefined; module main() { x : boolean; a : P; p : assert G x ? 0 : a; }", fault 12 72) ∷
    -- as an index over a range
    (codes "scalarset P undefined; module main() { x : boolean; a : P; y : array 0..1 of boolean; x := y[x ? 0 : a]; }", fault 12 93) ∷
    -- for a number
    (codes "scalarset P undefined; module main() { x : boolean; a : P; x := x ? 0 : a; }", fault 12 64) ∷
    -- a set for a number
    (codes "scalarset P undefined; module main() { x : boolean; a : P; x := {0, a}; }", fault 12 64) ∷
    -- a branch that is a set
    (codes "scalarset P undefined; scalarset Q undefined; module main() { x : boolean; a : P; b : Q; b := x ? {0, a} : 1; }", fault 12 94) ∷
    -- a `?:` in a `?:`
    (codes "scalarset P undefined; module main() { x : boolean; a : P; c : {red}; p : assert G ((x ? 0 : x ? a : 1) = red); }", fault 12 106) ∷
    -- where a value of the set type may stand
    (codes "scalarset P undefined; module main() { x : boolean; a : P; y : array P of boolean; x := y[x ? 0 : a]; a := x ? {0, a} : 1; p : assert G ((x ? 0 : a) = a | (x ? 0 : a) < 1 | 0 in {x ? 0 : a}); }", valid) ∷ []

-- an assignment's value has the target's kind
abbrev pub targets : List (List ℕ × Answer)
targets =
    -- a constant for a number
    (codes "module main() { x : boolean; c : {red}; x := red; }", fault 12 45) ∷
    -- a number for a constant
    (codes "module main() { c : {red}; init(c) := 0; }", fault 12 38) ∷
    -- a constant of another list
    (codes "module main() { c : {red}; d : {blue}; next(c) := d; }", fault 12 50) ∷
    -- a value of a set type for a number
    (codes "scalarset P undefined; module main() { x : boolean; a : P; x := a; }", fault 12 64) ∷
    -- a constant for a value of a set type
    (codes "scalarset P undefined; module main() { a : P; c : {red}; a := red; }", fault 12 62) ∷
    -- a value of another set type
    (codes "scalarset P undefined; scalarset Q undefined; module main() { a : P; b : Q; next(a) := b; }", fault 12 87) ∷
    -- numbers for a value of a set type are left to the rules of set types
    (codes "scalarset P undefined; module main() { a : P; init(a) := 0; next(a) := {0, 1}; }", valid) ∷
    -- a value in parentheses
    (codes "module main() { x : boolean; c : {red}; x := ((c)); }", fault 12 47) ∷
    -- a `?:` whose branches do not fit, at its first token
    (codes "module main() { x : boolean; c : {red}; x := (x) = 1 ? red : red; }", fault 12 46) ∷
    -- a set whose members do not fit, at the set
    (codes "module main() { x : boolean; c : {red}; x := {red}; }", fault 12 45) ∷
    -- an element
    (codes "module main() { y : array 0..1 of {red}; y[0] := 1; }", fault 12 49) ∷
    -- a field
    (codes "scalarset P undefined; module main() { s : struct { f : {red}; g : P; }; s.f := red; s.g := red; }", fault 12 92) ∷
    -- a range takes every number
    (codes "module main() { x : 0..3; x := 511; next(x) := x + 9; }", valid) ∷ []

-- a number and a value of a set type, where the rules of set types decide
abbrev pub left_to_set_types : List (List ℕ × Answer)
left_to_set_types =
    -- sides
    (codes "scalarset P undefined; module main() { a : P; p : assert G (0 = a); q : assert G (a ~= 1 + 1); }", valid) ∷
    -- sides of an order
    (codes "scalarset P undefined; module main() { a : P; x : 0..3; p : assert G (a < x); q : assert G (x mod 2 >= a); }", valid) ∷
    -- the left part and a member
    (codes "scalarset P undefined; module main() { a : P; x : 0..3; p : assert G (x in {a}); q : assert G (a in {x, 2..3}); }", valid) ∷
    -- members of one set
    (codes "scalarset P undefined; module main() { a : P; x : 0..3; a := {x, a}; p : assert G (a in {a, x}); }", valid) ∷
    -- the value and a label
    (codes "scalarset P undefined; module main() { a : P; x : 0..3; switch (a) { 1 : x := 0; } switch (x) { a : next(x) := 0; } }", valid) ∷
    -- branches
    (codes "scalarset P undefined; module main() { a : P; x : 0..3; a := x ? x : a; p : assert G (a = (x ? a : 1)); }", valid) ∷
    -- the value of a target
    (codes "scalarset P undefined; module main() { a : P; x : 0..3; a := x; init(a) := {i : i in 0..1}; }", valid) ∷
    -- an index
    (codes "scalarset P undefined; module main() { x : 0..3; y : array P of boolean; p : assert G y[x]; y[x + 1] := 0; }", valid) ∷
    -- variables over a range
    (codes "scalarset P undefined; module main() { y : array P of boolean; a : P; forall (i in 0..1) { p[i] : assert G (y[i] | a = i); } }", valid) ∷
    -- nothing is left where a constant meets a value of a set type
    (codes "scalarset P undefined; module main() { a : P; c : {red}; p : assert G (a = 0 | a = red); }", fault 12 83) ∷ []

-- a `for` variable is a number
abbrev pub for_variables : List (List ℕ × Answer)
for_variables =
    -- beside a value of a set type
    (codes "scalarset P undefined; module main() { a : P; x : boolean; for (n = 0; n < 2; n = n + 1) if (n = a | a in {n} | a < n) x := 0; }", valid) ∷
    -- as a value, a branch, a member and a label
    (codes "scalarset P undefined; module main() { a, b : P; x : boolean; for (n = 0; n < 2; n = n + 1) { a := n; b := x ? {n, a} : n; switch (a) { n : x := n; } } }", valid) ∷
    -- as an index over a set type
    (codes "scalarset P undefined; module main() { y : array P of boolean; for (n = 0; n < 2; n = n + 1) y[n] := n; }", valid) ∷
    -- beside a constant
    (codes "module main() { x : boolean; c : {red}; for (n = 0; n < 2; n = n + 1) if (c = n) x := 0; }", fault 12 78) ∷
    -- for a constant
    (codes "module main() { y : array 0..1 of {red}; for (n = 0; n <= 1; n = n + 1) y[n] := n + 1; }", fault 12 80) ∷
    -- as a label beside a constant
    (codes "module main() { x : boolean; c : {red}; for (n = 0; n < 2; n = n + 1) switch (c) { n : x := 0; } }", fault 12 83) ∷
    -- with an index
    (codes "module main() { x : boolean; for (n = 0; n < 2; n = n + 1) x := n[0]; }", fault 12 64) ∷ []

-- each part of an expression is looked at
abbrev pub parts_of_expressions : List (List ℕ × Answer)
parts_of_expressions =
    -- both sides of `<->`
    (codes "module main() { c : {red}; p : assert G (~c <-> 1); q : assert G (1 <-> ~c); }", fault 12 42) ∷
    -- the right side of `<->`
    (codes "module main() { c : {red}; p : assert G (1 <-> ~c); }", fault 12 48) ∷
    -- the left side of `=`
    (codes "module main() { c : {red}; p : assert G (1 + c = 1); }", fault 12 45) ∷
    -- the right side of an order
    (codes "module main() { c : {red}; p : assert G (1 < 1 + c); }", fault 12 49) ∷
    -- the left part of `in`
    (codes "module main() { c : {red}; p : assert G (1 + c in {1}); }", fault 12 45) ∷
    -- a member
    (codes "module main() { c : {red}; p : assert G (1 in {1, 1 + c}); }", fault 12 54) ∷
    -- the condition of a `?:`
    (codes "module main() { c : {red}; p : assert G ((~c ? 0 : 1) = 1); }", fault 12 43) ∷
    -- the second branch
    (codes "module main() { c : {red}; p : assert G ((1 ? 0 : 1 - c) = 1); }", fault 12 54) ∷
    -- the branches of a value
    (codes "module main() { x : boolean; c : {red}; x := x ? {x, ~c} : 1; }", fault 12 54) ∷
    -- the condition of a value
    (codes "module main() { x : boolean; c : {red}; x := ~c ? {x} : 1; }", fault 12 46) ∷
    -- a remainder in a quantifier in a quantifier
    (codes "module main() { c : {red}; p : assert G &[ |[ 1 = c mod 2 : j in 0..1 ] : i in 0..1 ]; }", fault 12 50) ∷
    -- the condition of a comprehension, with its variable
    (codes "scalarset P undefined; module main() { a : P; a := {i : i in P, i = a & ~i}; }", fault 12 73) ∷ []

-- designs without a fault of kinds
abbrev pub designs : List (List ℕ × Answer)
designs =
    -- a register
    (codes "module main() { x : boolean; init(x) := 0; next(x) := ~x; p : assert G (x | ~x); }", valid) ∷
    -- a counter
    (codes "module main() { x : 0..7; init(x) := 0; next(x) := (x + 1) mod 8; p : assert G (x <= 7); }", valid) ∷
    -- two registers with a layer
    (codes "module main() { a, b : boolean; init(a) := 0; init(b) := 0; next(a) := b; next(b) := a; layer spec : { a := 0; b := 0; } using b//spec prove a//spec; using a//spec prove b//spec; }", valid) ∷
    -- claims that use each other
    (codes "module main() { x : boolean; p : assert G x; q : assert G x; using q prove p; using p prove q; }", valid) ∷
    -- a split over a set type
    (codes "scalarset P undefined; module main() { a, b : P; p : assert G (a = b -> a = b); forall (i in P) subcase s[i] of p for a = i; }", valid) ∷
    -- an index outside its range is no fault
    (codes "module main() { x : array 0..1 of 0..0; n : 0..2; p : assert G (x[n] = 0); }", valid) ∷
    -- an order
    (codes "ordset I undefined; module main() { forall (i in I) forall (j in I) p[i][j] : assert G (i < j | i = j | j < i); }", valid) ∷
    -- a module
    (codes "module inverter(a, b) { input a : boolean; output b : boolean; b := ~a; } module main() { x, y : boolean; n : inverter(x, y); }", valid) ∷
    -- an unknown function
    (codes "scalarset WORD undefined; module main() { f : array WORD of WORD; forall (a in WORD) next(f[a]) := f[a]; }", valid) ∷ []

-- a fault of names or size comes first, wherever it stands
abbrev pub earlier_passes : List (List ℕ × Answer)
earlier_passes =
    -- a name that is not declared
    (codes "module main() { x : boolean; c : {red}; x := red; c := y; }", fault 7 55) ∷
    -- a missing field beside a missing index
    (codes "module main() { s : array 0..1 of struct { f : boolean; }; x : boolean; x := s.f & s.g; }", fault 7 85) ∷
    -- a type as a signal
    (codes "typedef t boolean; module main() { x : boolean; x := {0} + t; }", fault 7 59) ∷
    -- a wrong number of arguments
    (codes "module m(a) { input a : array 0..1 of boolean; } module main() { n : m(); }", fault 11 69) ∷
    -- a family with five indexes
    (codes "module main() { x : array 3..2 of array 0..1 of array 0..1 of array 0..1 of array 0..1 of boolean; }", fault 25 7) ∷ []
