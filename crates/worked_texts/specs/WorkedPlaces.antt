-- Worked texts on references, sets, ranges, types and statements by theme, each with its first fault. A fault's place was found by hand.
use Rattle.std.specs.Prelude.{ℕ, List, [], ◌∷◌, codes}
use Rattle.worked_texts.specs.KindsWorked.{Answer, fault, valid}

-- an index has its type's kind
abbrev pub indexes : List (List ℕ × Answer)
indexes =
    -- a constant over a range
    (codes "module main() { y : array 0..1 of boolean; c : {red}; p : assert G y[red]; }", fault 12 69) ∷
    -- a value of a set type over a range
    (codes "scalarset P undefined; module main() { a : P; y : array 0..1 of boolean; p : assert G y[a]; }", fault 12 88) ∷
    -- a constant over a set type
    (codes "scalarset P undefined; module main() { y : array P of boolean; c : {red}; y[c] := 0; }", fault 12 76) ∷
    -- a value of another set type
    (codes "scalarset P undefined; scalarset Q undefined; module main() { b : Q; y : array P of boolean; next(y[b]) := 0; }", fault 12 100) ∷
    -- the second index
    (codes "scalarset P undefined; module main() { a : P; y : array P of array 0..1 of boolean; p : assert G y[a][a]; }", fault 12 102) ∷
    -- an index in an index
    (codes "module main() { y : array 0..1 of boolean; c : {red}; p : assert G y[y[c]]; }", fault 12 71) ∷
    -- an index before a field
    (codes "scalarset P undefined; module main() { a : P; s : array 0..1 of struct { f : boolean; }; p : assert G s[a].f; }", fault 12 104) ∷
    -- behind an instance
    (codes "module m() { y : array 0..1 of boolean; } scalarset P undefined; module main() { a : P; n : m(); p : assert G n.y[a]; }", fault 12 114) ∷
    -- a variable over a set type, over a range
    (codes "scalarset P undefined; module main() { y : array 0..1 of boolean; forall (i in P) y[i] := 0; }", fault 12 84) ∷
    -- a sum over a range, in parentheses
    (codes "module main() { y : array 0..1 of boolean; x : boolean; c : {red}; p : assert G (y[(x + 1)] = y[((c))]); }", fault 12 98) ∷
    -- a number over a set type is left to the rules of set types
    (codes "scalarset P undefined; module main() { a : P; y : array P of boolean; y[0] := 0; y[a] := 1; next(y[1 + 1]) := 0; }", valid) ∷
    -- a `for` variable over a range and over a set type
    (codes "scalarset P undefined; module main() { y : array P of array 0..3 of boolean; for (n = 0; n < 4; n = n + 1) y[n][n + 1] := 0; }", valid) ∷ []

-- a reference is whole and of a simple type
abbrev pub whole_references : List (List ℕ × Answer)
whole_references =
    -- an array
    (codes "module main() { x : boolean; y : array 0..1 of boolean; x := y; }", fault 12 61) ∷
    -- a struct
    (codes "module main() { x : boolean; s : struct { f : boolean; }; x := s; }", fault 12 63) ∷
    -- an index too few
    (codes "module main() { y : array 0..1 of array 0..1 of boolean; p : assert G ~(y[0]); }", fault 12 72) ∷
    -- an index too many
    (codes "module main() { y : array 0..1 of boolean; p : assert G y[0][1]; }", fault 12 56) ∷
    -- an index of a boolean
    (codes "module main() { x : boolean; p : assert G x[0]; }", fault 12 42) ∷
    -- a missing index before a field
    (codes "module main() { s : array 0..1 of struct { f : boolean; }; p : assert G s.f; }", fault 12 72) ∷
    -- an index behind a field in place of one before it
    (codes "module main() { s : array 0..1 of struct { f : boolean; }; p : assert G s.f[0]; }", fault 12 72) ∷
    -- an index of a variable
    (codes "module main() { forall (i in 0..1) p[i] : assert G i[0]; }", fault 12 51) ∷
    -- an index of a constant
    (codes "module main() { c : {red}; p : assert G (c = red[0]); }", fault 12 45) ∷
    -- arrays and structs in each other, by names of types
    (codes "typedef t array 0..1 of boolean; typedef s struct { f : array boolean of t; }; module main() { v : array 0..3 of s; x : boolean; x := v[3].f[x][0]; p : assert G (v[2].f[1][1] & v[2].f[1]); }", fault 12 177) ∷
    -- a fault in the index of a reference that is not whole comes later
    (codes "module main() { x : boolean; c : {red}; p : assert G x[1 + red]; }", fault 12 53) ∷ []

-- claims, splits and instances are no references, and only signals are assigned
abbrev pub no_signals : List (List ℕ × Answer)
no_signals =
    -- a claim
    (codes "module main() { x : boolean; p : assert G 1; x := p; }", fault 12 50) ∷
    -- a claim in itself
    (codes "module main() { p : assert G ~p; }", fault 12 30) ∷
    -- a split
    (codes "module main() { x : boolean; p : assert G x; forall (i in 0..1) subcase s[i] of p for x = i; q : assert G (x | s); }", fault 12 111) ∷
    -- an instance
    (codes "module m() { y : boolean; } module main() { n : m(); p : assert G (n.y & n); }", fault 12 73) ∷
    -- an index of an instance
    (codes "module m() { y : boolean; } module main() { n : m(); p : assert G (n.y & n[0].y); }", fault 12 73) ∷
    -- an array behind an instance
    (codes "module m() { y : array 0..1 of boolean; } module main() { n : m(); p : assert G (n.y[0] & n.y); }", fault 12 90) ∷
    -- a claim behind an instance
    (codes "module m() { p : assert G 1; } module main() { n : m(); x : boolean; x := n.p; }", fault 12 74) ∷
    -- an array on the left
    (codes "module main() { y : array 0..1 of boolean; init(y) := 0; }", fault 12 48) ∷
    -- an index of a boolean on the left
    (codes "module main() { x : boolean; x[0] := 0; }", fault 12 29) ∷
    -- a claim on the left
    (codes "module main() { p : assert G 1; p := 1; }", fault 12 32) ∷
    -- a constant on the left
    (codes "module main() { c : {red}; c := red; red := red; }", fault 12 37) ∷
    -- a variable on the left
    (codes "module main() { forall (i in 0..1) i := i; }", fault 12 35) ∷
    -- a split as a value
    (codes "module main() { x : boolean; p : assert G 1; subcase s of p for x = i; x := s; }", fault 12 76) ∷ []

-- an operand that is itself at fault has no kind and causes no further fault; one made of others keeps its kind
abbrev pub own_faults : List (List ℕ × Answer)
own_faults =
    -- a set beside a constant is at fault as a set alone
    (codes "module main() { c : {red}; p : assert G (c = {0}); }", fault 14 45) ∷
    -- a set under logic
    (codes "module main() { p : assert G ~{red}; c : {red}; }", fault 14 30) ∷
    -- a set as an index
    (codes "module main() { y : array 0..1 of boolean; c : {red}; p : assert G y[{red}]; }", fault 14 69) ∷
    -- a claim as the left side fits everything
    (codes "module main() { c : {red}; p : assert G (p = 0 & p = c); }", fault 12 41) ∷
    -- a claim as a member fits everything, and the others have a kind
    (codes "module main() { c : {red}; p : assert G 1; c := {p, 0}; }", fault 12 48) ∷
    -- a claim as a branch
    (codes "module main() { x : boolean; p : assert G 1; x := x ? p : 0; }", fault 12 54) ∷
    -- a sum is a number, whatever its parts
    (codes "module main() { x : boolean; c : {red}; p : assert G (c = (x + red)); }", fault 12 59) ∷
    -- an element has its kind, whatever its index
    (codes "module main() { y : array 0..1 of boolean; c : {red}; p : assert G (c = y[red]); }", fault 12 72) ∷
    -- `in` is a number, whatever its members
    (codes "module main() { x : boolean; c : {red}; p : assert G (c = (x in {red})); }", fault 12 59) ∷
    -- a sum in a sum
    (codes "module main() { x : boolean; c : {red}; p : assert G (x + (1 + red) = x); }", fault 12 63) ∷ []

-- a set stands as the value of an assignment, as a branch of `?:` there, or right of `in`
abbrev pub sets : List (List ℕ × Answer)
sets =
    -- left of `=`
    (codes "module main() { x : boolean; p : assert G ({0, 1} = x); }", fault 14 43) ∷
    -- under `&`
    (codes "module main() { x : boolean; p : assert G (x & {0}); }", fault 14 47) ∷
    -- in a sum
    (codes "module main() { x : boolean; x := 1 + {0}; }", fault 14 38) ∷
    -- as a condition
    (codes "module main() { x : boolean; if ({0, 1}) x := 0; }", fault 14 33) ∷
    -- as the condition of a `?:`
    (codes "module main() { x : boolean; x := {0} ? 0 : {1}; }", fault 14 34) ∷
    -- as a claim
    (codes "module main() { p : assert G {1}; }", fault 14 29) ∷
    -- as a member
    (codes "module main() { x : boolean; x := {0, {1}}; }", fault 14 38) ∷
    -- left of `in`
    (codes "module main() { p : assert G ({0} in {0}); }", fault 14 30) ∷
    -- as a member right of `in`
    (codes "module main() { x : boolean; p : assert G (x in {{0}, 1}); }", fault 14 49) ∷
    -- as a branch of a `?:` that is no value
    (codes "module main() { x : boolean; p : assert G ((x ? {0} : 1) = 1); }", fault 14 48) ∷
    -- as a branch of a `?:` in a set
    (codes "module main() { x : boolean; x := {x ? {0} : 1}; }", fault 14 39) ∷
    -- where it may stand
    (codes "module main() { x : boolean; x := {0, 1}; init(x) := x ? {0} : x ? 1 : {0..1}; next(x) := {i : i in 0..1, i in {0, x}}; }", valid) ∷ []

-- a comprehension stands where a set may, save right of `in`
abbrev pub comprehensions : List (List ℕ × Answer)
comprehensions =
    -- right of `in`
    (codes "module main() { x : boolean; p : assert G (x in {i : i in 0..1}); }", fault 14 48) ∷
    -- right of `in`, over another kind
    (codes "scalarset P undefined; module main() { c : {red}; p : assert G (c in {i : i in P}); }", fault 14 69) ∷
    -- with a condition that has a fault, which comes later
    (codes "module main() { x : boolean; c : {red}; p : assert G (x in {i : i in 0..1, red}); }", fault 14 59) ∷
    -- under `|`
    (codes "module main() { x : boolean; p : assert G (x | {i : i in 0..1}); }", fault 14 47) ∷
    -- in its own condition
    (codes "module main() { x : boolean; x := {i : i in 0..1, {j : j in 0..1}}; }", fault 14 50) ∷
    -- as what is reduced
    (codes "module main() { p : assert G &[ {j : j in 0..1} : i in 0..1 ]; }", fault 14 32) ∷
    -- as the value of a `switch`
    (codes "module main() { x : boolean; switch ({i : i in 0..1}) { 0 : x := 0; } }", fault 14 37) ∷
    -- as an index on the left
    (codes "module main() { y : array 0..1 of boolean; y[{i : i in 0..1}] := 0; }", fault 14 45) ∷
    -- in a split
    (codes "module main() { p : assert G 1; forall (i in 0..1) subcase s[i] of p for {0} = i; }", fault 14 73) ∷
    -- as a branch
    (codes "module main() { x : boolean; x := x ? {i : i in 0..1} : {i : i in boolean, ~i}; }", valid) ∷
    -- right of `in`, numbers beside a constant
    (codes "module main() { c : {red}; p : assert G (c in {i : i in 0..1}); }", fault 14 46) ∷ []

-- a range goes from below to above, and in a type or a scalarset to 255 at most
abbrev pub ranges : List (List ℕ × Answer)
ranges =
    -- above 255
    (codes "module main() { x : 0..256; }", fault 13 20) ∷
    -- a scalarset
    (codes "scalarset P 3..2; module main() { }", fault 13 12) ∷
    -- a scalarset above 255
    (codes "scalarset P 250..256; module main() { }", fault 13 12) ∷
    -- a typedef
    (codes "typedef t array 0..1 of 1..0; module main() { }", fault 13 24) ∷
    -- an index type
    (codes "module main() { y : array 0..1 of array 3..2 of boolean; }", fault 13 40) ∷
    -- a field
    (codes "module main() { s : struct { f : boolean; g, h : struct { k : 5..4; }; }; }", fault 13 62) ∷
    -- a formal
    (codes "module m(a) { input a : 2..1; } module main() { }", fault 13 24) ∷
    -- a `forall` around an item
    (codes "module main() { forall (i in 3..2) { } }", fault 13 29) ∷
    -- a `forall` around a statement
    (codes "module main() { y : array 0..9 of boolean; layer L : { forall (i in 8..7) y[i] := 0; } }", fault 13 68) ∷
    -- a range of one number, and 255
    (codes "scalarset P 0..255; typedef t 255..255; module main() { x : 2..2; y : 0..255; z : t; }", valid) ∷ []

-- ranges of quantifiers, comprehensions and members
abbrev pub ranges_in_expressions : List (List ℕ × Answer)
ranges_in_expressions =
    -- a quantifier
    (codes "module main() { p : assert G &[ i : i in 3..2 ]; }", fault 13 41) ∷
    -- a quantifier above 255
    (codes "module main() { p : assert G |[ i : i in 0..256 ]; }", fault 13 41) ∷
    -- a comprehension
    (codes "module main() { x : 0..3; x := {i : i in 3..2, i = 0}; }", fault 13 41) ∷
    -- a comprehension above 255
    (codes "module main() { x : 0..3; x := {i : i in 1..300}; }", fault 13 41) ∷
    -- a member right of `in`
    (codes "module main() { x : 0..3; p : assert G (x in {0, 3..2}); }", fault 13 49) ∷
    -- a member of a value
    (codes "module main() { x : 0..3; x := {3..2, 1}; }", fault 13 32) ∷
    -- members above 255
    (codes "module main() { x : 0..3; x := {0..256, 511..511}; p : assert G (x in {300..400}); }", valid) ∷
    -- a span has a kind all the same
    (codes "module main() { c : {red}; p : assert G (c in {red, 3..2}); }", fault 12 52) ∷
    -- the body of a quantifier comes before its range
    (codes "module main() { c : {red}; p : assert G &[ red : i in 3..2 ]; }", fault 12 43) ∷
    -- the numbers of a `for` are no range
    (codes "module main() { y : array 0..1 of boolean; for (n = 400; n < 300; n = n + 1) y[n] := 0; }", valid) ∷
    -- members above 255 in branches
    (codes "module main() { x : 0..3; x := x = 0 ? {256..256} : {1, 300..511}; }", valid) ∷ []

-- an index type is a range or a set type
abbrev pub index_types : List (List ℕ × Answer)
index_types =
    -- an enumeration
    (codes "typedef t {red}; module main() { y : array t of boolean; }", fault 12 43) ∷
    -- an array
    (codes "typedef t array 0..1 of boolean; module main() { y : array 0..1 of array t of boolean; }", fault 12 73) ∷
    -- a struct, in a typedef
    (codes "typedef t struct { f : boolean; }; typedef u struct { g : array t of boolean; }; module main() { }", fault 12 64) ∷
    -- a `forall` around an item
    (codes "typedef t {red}; module main() { forall (i in t) { } }", fault 12 46) ∷
    -- a `forall` around a statement
    (codes "typedef t {red}; module main() { x : boolean; if (x) forall (i in t) x := 0; }", fault 12 66) ∷
    -- a quantifier
    (codes "typedef t {red}; module main() { p : assert G &[ 1 : i in t ]; }", fault 12 58) ∷
    -- a comprehension
    (codes "typedef t {red}; module main() { c : t; c := {i : i in t}; }", fault 12 55) ∷
    -- a variable over an enumeration is a constant all the same
    (codes "typedef t {red}; module main() { p : assert G &[ i = red : i in t ]; }", fault 12 64) ∷
    -- and so it does not fit a number, which stands before the type
    (codes "typedef t {red}; module main() { p : assert G &[ i = 0 : i in t ]; }", fault 12 53) ∷
    -- an index over an enumeration is a constant
    (codes "typedef t {red}; module main() { p : assert G y[red]; y : array t of boolean; }", fault 12 64) ∷
    -- and no number
    (codes "typedef t {red}; module main() { p : assert G (y[red] | y[0]); y : array t of boolean; }", fault 12 58) ∷
    -- a variable and an index over an array type fit everything
    (codes "typedef t array 0..1 of boolean; module main() { c : {red}; p : assert G &[ i & i = red & y[red] & y[0] : i in t ]; y : array t of boolean; }", fault 12 111) ∷
    -- ranges and set types by name
    (codes "scalarset P 0..3; ordset O undefined; typedef p P; typedef b boolean; typedef r 0..3; module main() { y : array p of array b of array O of array r of boolean; forall (i in p) forall (j in O) forall (k in r) y[i][k = 0][j][k] := 0; }", valid) ∷ []

-- a formal is simple
abbrev pub formals : List (List ℕ × Answer)
formals =
    -- an array as an input
    (codes "module m(a) { input a : array 0..1 of boolean; } module main() { }", fault 12 20) ∷
    -- a struct as an output
    (codes "module m(a) { output a : struct { f : boolean; }; } module main() { }", fault 12 21) ∷
    -- the second of two names
    (codes "typedef t array 0..1 of boolean; module m(a, b, c) { input a : boolean; input b, c : t; } module main() { }", fault 12 78) ∷
    -- a formal of `main`
    (codes "module main(a) { input a : array 0..1 of boolean; }", fault 12 23) ∷
    -- before the range in its type
    (codes "module m(a) { input a : array 3..2 of boolean; } module main() { }", fault 12 20) ∷
    -- an instance of such a module
    (codes "typedef t array 0..1 of boolean; module main() { c : {red}; n : m(c); } module m(a) { input a : t; }", fault 12 92) ∷
    -- ranges, enumerations and set types
    (codes "scalarset P undefined; typedef t P; module m(a, b, c) { input a : 0..3; output b : {red}; output c : t; } module main() { }", valid) ∷
    -- signals that are no formals
    (codes "module m() { y : array 0..1 of boolean; abstract s : struct { f : boolean; }; } module main() { }", valid) ∷ []

-- an input takes the value of its argument, which may be a set
abbrev pub inputs : List (List ℕ × Answer)
inputs =
    -- a constant for a number
    (codes "module m(a) { input a : boolean; } module main() { c : {red}; n : m(c); }", fault 12 68) ∷
    -- the second argument, in parentheses
    (codes "module m(a, b) { input b : boolean; input a : {red}; } module main() { n : m(red, ((red))); }", fault 12 84) ∷
    -- a value of a set type for a number
    (codes "scalarset P undefined; module m(a) { input a : boolean; } module main() { b : P; n : m(b); }", fault 12 87) ∷
    -- a number for a value of a set type is left to the rules of set types
    (codes "scalarset P undefined; module main() { n : m(0); k : m({0, 1}); } module m(a) { input a : P; }", valid) ∷
    -- a type that only the module may name
    (codes "module main() { x : boolean; n : m(x); } typedef t {red}; module m(a) { input a : t; }", fault 12 35) ∷
    -- a set
    (codes "module m(a) { input a : 0..3; } module main() { x : boolean; n, k : m({0, x}); l : m({i : i in 0..3, i = x}); h : m(x ? {0} : 3); }", valid) ∷
    -- a set of constants for a number
    (codes "module m(a) { input a : boolean; } module main() { c : {red}; n : m({red}); }", fault 12 68) ∷
    -- a set with members of two kinds
    (codes "module m(a) { input a : boolean; } module main() { c : {red}; n : m({0, red}); }", fault 12 72) ∷
    -- a whole array
    (codes "module m(a) { input a : boolean; } module main() { y : array 0..1 of boolean; n : m(y); }", fault 12 84) ∷
    -- a fault inside
    (codes "module m(a) { input a : boolean; } module main() { x : boolean; c : {red}; n : m(x & c); }", fault 12 85) ∷
    -- an index that is no constant
    (codes "module m(a) { input a : boolean; } module main() { x : boolean; y : array 0..1 of boolean; n : m(y[x]); k : m(n.a); }", valid) ∷ []

-- an output's argument is a path with constant indexes, which takes the output's value
abbrev pub outputs : List (List ℕ × Answer)
outputs =
    -- a number
    (codes "module m(b) { output b : boolean; } module main() { n : m(1); }", fault 12 58) ∷
    -- a sum
    (codes "module m(b) { output b : boolean; } module main() { x : boolean; n : m(x + 0); }", fault 12 71) ∷
    -- a set
    (codes "module m(b) { output b : boolean; } module main() { n : m({0}); }", fault 12 58) ∷
    -- an index that is no constant
    (codes "module m(b) { output b : boolean; } module main() { x : boolean; y : array 0..1 of boolean; n : m(y[x]); }", fault 12 98) ∷
    -- an index that is no number
    (codes "module m(b) { output b : boolean; } module main() { c : {red}; y : array 0..1 of boolean; n : m(y[red]); }", fault 12 96) ∷
    -- a constant of an enumeration
    (codes "module m(b) { output b : {red}; } module main() { n : m(red); }", fault 12 56) ∷
    -- a whole array
    (codes "module m(b) { output b : boolean; } module main() { y : array 0..1 of boolean; n : m(y); }", fault 12 85) ∷
    -- a constant for a number
    (codes "module m(b) { output b : {red}; } module main() { x : boolean; n : m(x); }", fault 12 69) ∷
    -- a value of a set type for a number
    (codes "scalarset P undefined; module m(b) { output b : P; } module main() { x : boolean; n : m((x)); }", fault 12 89) ∷
    -- a number for a value of a set type is left to the rules of set types
    (codes "scalarset P undefined; module m(b) { output b : boolean; } module main() { x : P; n : m(x); }", valid) ∷
    -- constant indexes
    (codes "module m(b) { output b : boolean; } module main() { y : array 0..3 of struct { f : array 0..3 of boolean; }; n : m(y[(1 + 2) mod 3].f[3 - 2]); k : m((n.b)); }", valid) ∷
    -- `mod 0` in a constant index
    (codes "module m(b) { output b : boolean; } module main() { y : array 0..3 of boolean; n : m(y[1 mod 0]); }", fault 12 93) ∷ []

-- the value of a `switch` and its labels have one kind, from left to right
abbrev pub switches : List (List ℕ × Answer)
switches =
    -- a constant behind a number
    (codes "module main() { x : boolean; c : {red}; switch (x) { 0, red : x := 1; } }", fault 12 56) ∷
    -- a number in a second arm
    (codes "module main() { x : boolean; c : {red, green}; switch (c) { red : x := 1; green, 0 : x := 0; } }", fault 12 81) ∷
    -- a constant of another list
    (codes "module main() { x : boolean; c : {red}; d : {blue}; switch (c) { blue : x := 1; } }", fault 12 65) ∷
    -- a number and a value of a set type are left to the rules of set types
    (codes "scalarset P undefined; module main() { x : boolean; a : P; switch (a) { 0, a : x := 1; } switch (x) { a : x := 0; 1 : x := 1; } }", valid) ∷
    -- values of two set types in two arms
    (codes "scalarset P undefined; scalarset Q undefined; module main() { x : boolean; a : P; b : Q; switch (0) { a : x := 1; b : x := 0; } }", fault 12 114) ∷
    -- a claim as a label
    (codes "module main() { x : boolean; p : assert G 1; switch (x) { p : x := 1; } }", fault 12 58) ∷
    -- an array as the value
    (codes "module main() { x : boolean; y : array 0..1 of boolean; switch (y) { 0 : x := 1; } }", fault 12 64) ∷
    -- an arm comes before the next label
    (codes "module main() { x : boolean; c : {red}; switch (x) { 0 : x := red; red : x := 1; } }", fault 12 62) ∷
    -- a label comes before its arm
    (codes "module main() { x : boolean; c : {red}; switch (x) { red : x := red; } }", fault 12 53) ∷
    -- the default
    (codes "module main() { x : boolean; c : {red}; switch (c) { red : x := 1; default : x := c; } }", fault 12 82) ∷
    -- labels that are signals
    (codes "module main() { x, y : 0..3; c : {red, green}; switch (x + 1) { y, 2 : x := 1; default : switch (c) { red, green : x := 0; } } }", valid) ∷ []

-- statements within others, in layers and out of them
abbrev pub statements : List (List ℕ × Answer)
statements =
    -- a layer
    (codes "module main() { x : boolean; c : {red}; layer L : { x := red; } }", fault 12 57) ∷
    -- braces and `else`
    (codes "module main() { x : boolean; c : {red}; { { if (x) { } else x := red; } } }", fault 12 65) ∷
    -- the first part of a `default`
    (codes "module main() { x : boolean; c : {red}; default x := red; in x := red; }", fault 12 53) ∷
    -- the second part
    (codes "module main() { x : boolean; c : {red}; layer L : { default x := 1; in { x := red; } } }", fault 12 78) ∷
    -- a `for` variable is a number
    (codes "module main() { y : array 0..3 of {red}; for (n = 0; n < 4; n = n + 1) y[n] := n; }", fault 12 79) ∷
    -- a `for` without a turn
    (codes "module main() { x : boolean; c : {red}; for (n = 1; n < 0; n = n + 1) x := red; }", fault 12 75) ∷
    -- a variable over a set type
    (codes "scalarset P undefined; module main() { y : array P of boolean; forall (i in P) if (y[i]) y[i] := i; }", fault 12 97) ∷
    -- a `forall` around items
    (codes "scalarset P undefined; module main() { y : array P of boolean; forall (i in P) { y[i] := 0; { q[i] : assert G (y[i] = i); } } }", valid) ∷
    -- a `for` variable beside a value of a set type is left to the rules of set types
    (codes "scalarset P undefined; module main() { a : P; x : boolean; for (n = 0; n < 4; n = n + 1) if (a = n) x := n; }", valid) ∷ []

-- the expressions of a split have no faults in themselves; their kinds are compared later
abbrev pub splits : List (List ℕ × Answer)
splits =
    -- a constant in a sum
    (codes "module main() { x : boolean; c : {red}; p : assert G 1; forall (i in 0..3) subcase s[i] of p for x + red = i; }", fault 12 101) ∷
    -- a claim
    (codes "module main() { p : assert G 1; forall (i in 0..1) subcase s[i] of p for p = i; }", fault 12 73) ∷
    -- an array, in the second equation
    (codes "module main() { x : boolean; y : array 0..1 of boolean; p : assert G 1; forall (i in 0..1) forall (j in 0..1) subcase s[i][j] of p for x = i, y = j; }", fault 12 142) ∷
    -- an index of another kind
    (codes "scalarset P undefined; module main() { y : array 0..1 of boolean; p : assert G 1; forall (i in P) subcase s[i] of p for y[i] = i; }", fault 12 122) ∷
    -- constants and values of set types
    (codes "scalarset P undefined; module main() { a : P; c : {red}; p : assert G 1; forall (i in 0..1) forall (j in P) subcase s[i][j] of p for c = i, a = j; }", valid) ∷
    -- brackets, and what stands in a `using`
    (codes "module main() { c : {red}; p[red] : assert G 1; using c//free, c prove c; }", valid) ∷ []

-- all modules and types are looked at, and the first place counts
abbrev pub whole_text : List (List ℕ × Answer)
whole_text =
    -- a module that is not used
    (codes "module m() { x : boolean; c : {red}; x := red; } module main() { }", fault 12 42) ∷
    -- a module behind `main`
    (codes "module main() { } module m() { x : 3..2; }", fault 13 35) ∷
    -- a constant of a later module
    (codes "module main() { x : boolean; x := red; } module m() { c : {red}; }", fault 12 34) ∷
    -- a signal that is declared later
    (codes "module main() { x := red; x : boolean; } typedef t {red};", fault 12 21) ∷
    -- a type in front of a module
    (codes "typedef t 3..2; module main() { x : t; c : {red}; x := red; }", fault 13 10) ∷
    -- a fault in a declaration behind one in an assignment
    (codes "module main() { x : boolean; c : {red}; x := red; y : 3..2; }", fault 12 45) ∷
    -- a set before a constant
    (codes "module main() { x : boolean; c : {red}; p : assert G (x = {0} | x = red); }", fault 14 58) ∷
    -- a constant before a set
    (codes "module main() { x : boolean; c : {red}; p : assert G (x = red | x = {0}); }", fault 12 58) ∷
    -- the same list in two modules
    (codes "module m() { c : {red, green}; } module main() { d : {red, green}; n : m(); p : assert G (n.c = d); }", valid) ∷
    -- two scalarsets of one size
    (codes "scalarset P 0..1; scalarset Q 0..1; module main() { a : P; b : Q; b := a; }", fault 12 71) ∷ []

-- each part of a statement and of an item is looked at
abbrev pub parts_of_statements : List (List ℕ × Answer)
parts_of_statements =
    -- an index on the left
    (codes "module main() { y : array 0..1 of boolean; c : {red}; next(y[1 - c]) := 0; }", fault 12 65) ∷
    -- the condition of an `if`
    (codes "module main() { x : boolean; c : {red}; if (~c) x := 0; }", fault 12 45) ∷
    -- the first branch of an `if`
    (codes "module main() { x : boolean; c : {red}; if (x) x := ~c; else x := ~c; }", fault 12 53) ∷
    -- the value of a `switch`
    (codes "module main() { x : boolean; c : {red}; switch (1 + c) { 0 : x := 0; } }", fault 12 52) ∷
    -- the second arm, without labels of another kind
    (codes "module main() { x : boolean; c : {red}; switch (x) { 0 : { } 1 : { x := 0; x := ~c; } } }", fault 12 81) ∷
    -- the body of a `for` in a `forall` in a `default`
    (codes "module main() { y : array 0..1 of boolean; c : {red}; default { } in forall (i in 0..1) for (n = 0; n < 1; n = n + 1) y[i] := n + c; }", fault 12 130) ∷
    -- a `forall` around a claim in braces
    (codes "module main() { c : {red}; forall (i in 0..1) { { p[i] : assert G (i = 1 | ~c); } } }", fault 12 76) ∷
    -- a later statement of a layer
    (codes "module main() { x : boolean; c : {red}; layer L : { x := 0; next(x) := ~c; } }", fault 12 72) ∷
    -- a later argument of a later instance
    (codes "module m(a, b) { input a, b : boolean; } module main() { c : {red}; n : m(0, 1); k : m({0, 1}, ~c); }", fault 12 96) ∷
    -- a variable over a set type in the condition of its body
    (codes "scalarset P undefined; module main() { y : array P of boolean; forall (i in P) if (i) y[i] := 0; }", fault 12 83) ∷ []

-- names behind an instance are read in its module, with the types that it may name
abbrev pub instances : List (List ℕ × Answer)
instances =
    -- a type that stands behind the module of the instance
    (codes "module main() { n : m(); p : assert G (n.s.f[1] = red); } typedef t struct { f : array 0..1 of boolean; }; module m() { s : t; c : {red}; }", fault 12 50) ∷
    -- an instance of an instance
    (codes "module k() { x : {red}; } module m() { n : k(); } module main() { n : m(); p : assert G (n.n.x = 1); }", fault 12 97) ∷
    -- an instance of an instance as a whole
    (codes "module k() { x : {red}; } module m() { n : k(); } module main() { n : m(); p : assert G (n.n.x = n.n); }", fault 12 97) ∷
    -- an assignment behind an instance
    (codes "module k() { x : {red}; } module main() { n : k(); n.x := 0; }", fault 12 58) ∷
    -- a signal of the same name in another module
    (codes "module k() { x : {red}; } module main() { x : boolean; n : k(); n.x := red; x := n.x; }", fault 12 81) ∷
    -- an input from the output of another instance
    (codes "module k(b) { output b : {red}; } module m(a) { input a : boolean; } module main() { c : {red}; n : k(c); l : m(n.b); }", fault 12 112) ∷
    -- an output into an input of another instance
    (codes "module k(b) { output b : {red}; } module m(a) { input a : boolean; } module main() { l : m(0); n : k(l.a); }", fault 12 101) ∷
    -- a formal of `main` that is a struct
    (codes "module main(a, b) { input a : {red}; output b : struct { f : boolean; }; }", fault 12 44) ∷
    -- formals of `main` are signals
    (codes "module main(a, b) { input a : {red}; output b : boolean; b := a; }", fault 12 62) ∷ []
