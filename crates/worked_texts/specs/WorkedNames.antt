-- Worked texts by theme, each with the first fault of its names or its size. A fault's place was counted by hand.
use Rattle.std.specs.Prelude.{ℕ, List, [], ◌∷◌, codes}
use Rattle.worked_texts.specs.Worked.{Answer, fault, valid}

-- one text for each fault
abbrev pub rows : List (List ℕ × Answer)
rows =
    -- a name that is not declared
    (codes "module main() { x : boolean; x := y; }", fault 7 34) ∷
    -- a signal twice
    (codes "module main() { x : boolean; x : boolean; }", fault 8 29) ∷
    -- no bytes
    (codes "", fault 9 0) ∷
    -- a module with an instance of itself
    (codes "module main() { a : main(); }", fault 10 20) ∷
    -- no argument for one formal
    (codes "module m(a) { input a : boolean; } module main() { x : m(); }", fault 11 55) ∷
    -- five index types
    (codes "module main() { x : array 0..1 of array 0..1 of array 0..1 of array 0..1 of array 0..1 of boolean; }", fault 25 7) ∷ []

-- texts whose first fault is of a later pass, or that have none
abbrev pub other_passes : List (List ℕ × Answer)
other_passes =
    (codes "module main() { x : boolean; c : {red}; p : assert G (x = red); }", valid) ∷
    (codes "module main() { x : 3..2; }", valid) ∷
    (codes "module main() { x : boolean; p : assert G (x = {0, 1}); }", valid) ∷
    (codes "module main() { x : boolean; x := 0; x := 1; }", valid) ∷
    (codes "module main() { x : boolean; forall (i in 0..1) x := 0; }", valid) ∷
    (codes "module main() { abstract s : boolean; x : boolean; layer L : { s := 0; } x := s; }", valid) ∷
    (codes "scalarset P undefined; module main() { a : P; p : assert G (a = 0); }", valid) ∷
    (codes "scalarset P undefined; module main() { x : array P of boolean; for (n = 0; n < 2; n = n + 1) x[n] := 0; }", valid) ∷
    -- a split of no unit
    (codes "module main() { x : boolean; forall (i in 0..1) subcase s[i] of q for x = i; }", valid) ∷
    (codes "module main() { x : {red}; p : assert G 1; forall (i in 0..1) subcase s[i] of p for x = i; }", valid) ∷
    -- uses of no unit
    (codes "module main() { p : assert G 1; using q, y//free prove p; }", valid) ∷
    -- names in brackets and braces
    (codes "scalarset P undefined; module main() { p[q] : assert G 1; using P->{i} prove p; }", valid) ∷
    (codes "module main() { x : array 0..255 of 0..255; n : 0..255; p : assert G (x[n] = 0); }", valid) ∷
    -- mutual exclusion
    (codes "scalarset P undefined; module main() { tok : P; crit : array P of boolean; forall (i in P) crit[i] := tok = i; forall (i in P) forall (j in P) mutex[i][j] : assert G (crit[i] & crit[j] -> i = j); }", valid) ∷ []

-- a whole reference may be a claim, a split or an instance here; a type, a module or a layer is no name of a signal
abbrev pub what_is_declared : List (List ℕ × Answer)
what_is_declared =
    -- a claim as a signal
    (codes "module main() { x : boolean; p : assert G 1; x := p; }", valid) ∷
    -- a split and an instance as signals
    (codes "module m() { } module main() { x : boolean; n : m(); p : assert G 1; subcase s of p for x = i; x := s | n; }", valid) ∷
    -- a type as a signal
    (codes "typedef t boolean; module main() { x : t; x := t; }", fault 7 47) ∷
    -- a module as a signal
    (codes "module m() { } module main() { x : boolean; x := m; }", fault 7 49) ∷
    -- a layer as a signal
    (codes "module main() { x : boolean; layer L : { x := 0; } x := L; }", fault 7 56) ∷
    -- a module as a type
    (codes "module m() { } module main() { x : m; }", fault 7 35) ∷
    -- a module as an index type
    (codes "module m() { } module main() { x : array m of boolean; }", fault 7 41) ∷
    -- a type as a module
    (codes "typedef t boolean; module main() { n : t(); }", fault 7 39) ∷
    -- a scalarset as a module
    (codes "scalarset P undefined; module main() { n : P(); }", fault 7 43) ∷
    -- a name that is used on the left side alone
    (codes "module main() { y := 0; }", fault 7 16) ∷
    -- an index
    (codes "module main() { x : array 0..1 of boolean; x[i] := 0; }", fault 7 45) ∷
    -- a label of a switch
    (codes "module main() { x : boolean; switch (x) { 0, red : x := 1; } }", fault 7 45) ∷
    -- the guard of a split
    (codes "module main() { p : assert G 1; forall (i in 0..1) subcase s[i] of p for x = i; }", fault 7 73) ∷
    -- a variable behind its binder
    (codes "module main() { x : array 0..1 of boolean; forall (i in 0..1) x[i] := 0; x[i] := 1; }", fault 7 75) ∷
    -- a variable in the type of its own binder
    (codes "module main() { p : assert G (&[ 1 : i in i ]); }", fault 7 42) ∷
    -- a module in a claim
    (codes "module m() { } module main() { x : boolean; p : assert G (x | m); }", fault 7 62) ∷
    -- a layer in itself
    (codes "module main() { x : boolean; layer L : { x := L; } }", fault 7 46) ∷ []

-- a field of something without fields; missing and additional indexes are left to kinds
abbrev pub fields : List (List ℕ × Answer)
fields =
    -- a field of a boolean
    (codes "module main() { x : boolean; x.a := 0; }", fault 7 31) ∷
    -- a field that the struct lacks
    (codes "module main() { x : struct { a : boolean; }; x.a := 0; x.b := 0; }", fault 7 57) ∷
    -- a field behind a field
    (codes "module main() { x : struct { a, b : struct { c : boolean; }; }; x.b.c := 0; x.b.a := 0; }", fault 7 80) ∷
    -- a field of a variable
    (codes "module main() { x : array 0..1 of boolean; forall (i in 0..1) x[i.a] := 0; }", fault 7 66) ∷
    -- a field of a constant
    (codes "module main() { x : {red}; x := red.a; }", fault 7 36) ∷
    -- a field of a claim
    (codes "module main() { x : boolean; p : assert G 1; x := p.a; }", fault 7 52) ∷
    -- a missing index, and an index of no array
    (codes "module main() { x : array 0..1 of struct { a : boolean; }; x.a := 0; x[0].a[1][2] := 0; }", valid) ∷
    -- a field in an array of a named type
    (codes "typedef t struct { a : boolean; }; module main() { x : array 0..1 of t; x[0].a := 0; x[0].b := 0; }", fault 7 90) ∷
    -- a field of a scalarset
    (codes "scalarset P undefined; module main() { x : P; x.a := 0; }", fault 7 48) ∷
    -- a field of a split
    (codes "module main() { p : assert G 1; subcase s of p for p = i; q : assert G s.a; }", fault 7 73) ∷ []

-- a field of a signal whose type is not declared, and a name of an instance whose module is not declared
abbrev pub behind_undeclared : List (List ℕ × Answer)
behind_undeclared =
    -- the field stands before the type
    (codes "module main() { x.a := 0; x : t; }", fault 7 18) ∷
    -- the type stands before the field
    (codes "module main() { x : t; x.a := 0; }", fault 7 20) ∷
    -- the name stands before the module
    (codes "module main() { n.a := 0; n : m(); }", fault 7 18) ∷
    -- a name that the module lacks
    (codes "module m() { a : boolean; } module main() { n : m(); x : boolean; x := n.a & n.b; }", fault 7 79) ∷
    -- a constant is no name of a module
    (codes "module m() { a : {red}; } module main() { n : m(); x : {red}; x := n.red; }", fault 7 69) ∷
    -- a signal of an instance of an instance
    (codes "module k() { a : struct { b : boolean; }; } module m() { n : k(); } module main() { n : m(); x : boolean; x := n.n.a.b & n.n.b; }", fault 7 125) ∷
    -- the field of an element stands before the type
    (codes "module main() { x[0].a := 0; x : array 0..1 of t; }", fault 7 21) ∷
    -- the name stands before a type in place of a module
    (codes "typedef t boolean; module main() { n.a := 0; n : t(); }", fault 7 37) ∷ []

-- types stand before their uses, and modules in any order
abbrev pub order_of_tops : List (List ℕ × Answer)
order_of_tops =
    -- a typedef of itself
    (codes "typedef t array 0..1 of t; module main() { }", fault 7 24) ∷
    -- a typedef of a later type
    (codes "typedef t u; typedef u boolean; module main() { }", fault 7 10) ∷
    -- a module before a type
    (codes "module main() { x : t; } typedef t boolean;", fault 7 20) ∷
    -- a binder over a later type
    (codes "module main() { forall (i in P) { } } scalarset P undefined;", fault 7 29) ∷
    -- a later module
    (codes "module main() { n : m(); x : boolean; x := n.a; } module m() { a : boolean; }", valid) ∷
    -- a later module with a type that it may name
    (codes "module main() { n : m(); n.x.a := 0; } typedef t struct { a : boolean; }; module m() { x : t; }", valid) ∷ []

-- of two declarations the first counts
abbrev pub first_counts : List (List ℕ × Answer)
first_counts =
    -- a type, and then a module: no module
    (codes "module main() { n : m(); } typedef m boolean; module m() { }", fault 7 20) ∷
    -- a type `main`, and then a module
    (codes "typedef main boolean; module main() { }", fault 9 0) ∷
    -- a signal and an instance of one name
    (codes "module m() { a : boolean; } module main() { x.a := 0; x : boolean; x : m(); }", fault 7 46) ∷
    -- two fields of one name
    (codes "module main() { x.a.b := 0; x : struct { a : boolean; a : struct { b : boolean; }; }; }", fault 7 20) ∷
    -- the variable comes after the signal
    (codes "module main() { x : struct { a : boolean; }; p : assert G (&[ x.a : x in 0..1 ]); }", fault 8 68) ∷
    -- the variable comes before the signal
    (codes "module main() { p : assert G (&[ x.a : x in 0..1 ]); x : struct { a : boolean; }; }", fault 7 35) ∷
    -- a formal that is first declared without a role
    (codes "module m(a) { a : boolean; input a : boolean; } module main() { }", fault 7 9) ∷ []

-- the later of two declarations
abbrev pub declared_twice : List (List ℕ × Answer)
declared_twice =
    -- two types
    (codes "typedef t boolean; typedef t boolean; module main() { }", fault 8 27) ∷
    -- a type and a module
    (codes "scalarset m undefined; module m() { } module main() { }", fault 8 30) ∷
    -- a signal and a claim
    (codes "module main() { p : boolean; p : assert G 1; }", fault 8 29) ∷
    -- two claims, one in braces
    (codes "module main() { p : assert G 1; { forall (i in 0..1) p[i] : assert G 1; } }", fault 8 53) ∷
    -- a split and an instance
    (codes "module m() { } module main() { p : assert G 1; subcase s of p for p = i; s : m(); }", fault 8 73) ∷
    -- two signals of one declaration
    (codes "module main() { x, x : boolean; }", fault 8 19) ∷
    -- signals of two modules
    (codes "module m() { x : boolean; } module main() { x : boolean; }", valid) ∷
    -- a signal and a type of one name
    (codes "typedef x boolean; module main() { x : x; }", valid) ∷
    -- two fields of one struct
    (codes "module main() { x : struct { a : boolean; b, a : boolean; }; }", fault 8 45) ∷
    -- one field in two structs
    (codes "module main() { x : struct { a : struct { a : boolean; }; }; a : boolean; }", valid) ∷
    -- one layer twice
    (codes "module main() { x, y : boolean; layer x : { x := 0; } layer x : { y := 0; } }", valid) ∷
    -- a quantifier around one of the same variable
    (codes "module main() { p : assert G (&[ |[ i = i : i in 0..1 ] : i in 0..1 ]); }", fault 8 58) ∷
    -- a `for` inside a `forall`
    (codes "module main() { x : array 0..1 of boolean; forall (i in 0..1) for (i = 0; i < 1; i = i + 1) x[i] := 0; }", fault 8 67) ∷
    -- a variable twice, side by side
    (codes "module main() { x : array 0..1 of boolean; forall (i in 0..1) init(x[i]) := 0; forall (i in 0..1) next(x[i]) := 1; }", valid) ∷
    -- a variable and a later signal
    (codes "module main() { forall (i in 0..1) { } i : boolean; }", fault 8 39) ∷
    -- a variable and an earlier claim
    (codes "module main() { p : assert G 1; layer L : { forall (p in 0..1) { } } }", fault 8 52) ∷
    -- a comprehension around a quantifier of the same variable
    (codes "module main() { x : boolean; x := {i : i in 0..1, &[ i = 1 : i in 0..1 ]}; }", fault 8 61) ∷
    -- a variable and a later instance
    (codes "module m() { } module main() { forall (n in 0..1) { } n : m(); }", fault 8 54) ∷
    -- a variable and an earlier instance
    (codes "module m() { } module main() { n : m(); forall (n in 0..1) { } }", fault 8 48) ∷
    -- a variable and a later split
    (codes "module main() { p : assert G 1; forall (s in 0..1) { } subcase s of p for p = i; }", fault 8 63) ∷
    -- a variable and an earlier split
    (codes "module main() { p : assert G 1; subcase s of p for p = i; layer L : { for (s = 0; s < 1; s = s + 1) { } } }", fault 8 75) ∷
    -- a variable and a later claim
    (codes "module main() { forall (p in 0..1) { } p : assert G 1; }", fault 8 39) ∷ []

-- the list of a module declares nothing
abbrev pub formals : List (List ℕ × Answer)
formals =
    -- a formal twice in the list
    (codes "module m(a, a) { input a : boolean; } module main() { }", fault 8 12) ∷
    -- a formal of three twice
    (codes "module m(b, a, b) { input a, b : boolean; } module main() { }", fault 8 15) ∷
    -- a formal without a declaration
    (codes "module m(a) { x : boolean; x := a; } module main() { }", fault 7 9) ∷
    -- a formal without a role
    (codes "module m(a) { a : boolean; } module main() { }", fault 7 9) ∷
    -- an input that is no formal
    (codes "module m(a) { input a : boolean; input b : boolean; } module main() { }", fault 7 39) ∷
    -- an output that is no formal
    (codes "module main() { output b : boolean; }", fault 7 23) ∷
    -- formals of `main`
    (codes "module main(a, b) { input a : boolean; output b : boolean; b := a; }", valid) ∷
    -- as many arguments as formals
    (codes "module m(a) { input a : boolean; } module main() { x : boolean; n, k : m(x); }", valid) ∷
    -- an argument more
    (codes "module m(a) { input a : boolean; } module main() { x : boolean; n : m(x, x); }", fault 11 68) ∷
    -- an argument that is not declared
    (codes "module m(a) { input a : boolean; } module main() { n : m(x); }", fault 7 57) ∷
    -- an undeclared argument of a wrong number: the earlier place
    (codes "module m(a) { input a : boolean; } module main() { n : m(x, x); }", fault 11 55) ∷
    -- the list declares nothing: of a variable and the declaration the later is that of the body
    (codes "module m(a) { forall (a in 0..1) { } input a : boolean; } module main() { }", fault 8 43) ∷
    -- the same of a constant
    (codes "module m(red) { c : {red}; input red : boolean; } module main() { }", fault 8 33) ∷ []

-- a constant is known in the whole text and belongs to one list
abbrev pub constants_of_lists : List (List ℕ × Answer)
constants_of_lists =
    -- a constant of a later module
    (codes "module main() { x : boolean; x := red; } module m() { c : {red}; }", valid) ∷
    -- the same list twice
    (codes "module main() { c, d : {red, green}; e : {red, green}; }", valid) ∷
    -- a constant twice in one list
    (codes "module main() { c : {red, red}; }", fault 8 26) ∷
    -- a constant in two lists
    (codes "module main() { c : {red, green}; d : {blue, green}; }", fault 8 45) ∷
    -- the same constants in another order
    (codes "module main() { c : {red, green}; d : {green, red}; }", fault 8 39) ∷
    -- a constant and a later signal of another module
    (codes "typedef t {red}; module m() { red : boolean; } module main() { }", fault 8 30) ∷
    -- a claim and a later constant
    (codes "module main() { red : assert G 1; } typedef t {blue, red};", fault 8 53) ∷
    -- a variable and an earlier constant
    (codes "module main() { c : {red}; forall (red in 0..1) { } }", fault 8 35) ∷
    -- a variable and a later constant
    (codes "module main() { forall (red in 0..1) { } c : {red}; }", fault 8 46) ∷
    -- a constant beside a type, a module, a layer and a field of its name
    (codes "typedef t {t, m, L, f}; module m() { } module main() { x : struct { f : boolean; }; layer L : { x.f := 0; } }", valid) ∷
    -- the last of three constants in one list
    (codes "typedef t {a, b, a}; module main() { }", fault 8 17) ∷
    -- a constant and an earlier signal of another module
    (codes "module m() { red : boolean; } module main() { c : {red}; }", fault 8 51) ∷
    -- a constant and a later claim
    (codes "typedef t {p}; module main() { p : assert G 1; }", fault 8 31) ∷
    -- a constant and a later instance
    (codes "module m() { } module main() { c : {n}; n : m(); }", fault 8 40) ∷
    -- a constant and an earlier instance
    (codes "module m() { } module main() { n : m(); } typedef t {n};", fault 8 53) ∷
    -- a constant and a later split
    (codes "typedef t {s}; module main() { p : assert G 1; subcase s of p for p = i; }", fault 8 55) ∷
    -- a constant and an earlier split
    (codes "module main() { p : assert G 1; subcase s of p for p = i; c : {red, s}; }", fault 8 68) ∷
    -- a constant and an earlier variable of another module
    (codes "module m() { forall (red in 0..1) { } } module main() { c : {red}; }", fault 8 61) ∷
    -- the first place of a constant counts
    (codes "module m() { red : boolean; } typedef t {red}; module main() { c : {red}; }", fault 8 41) ∷
    -- constants beside a scalarset, modules, layers and fields of their names
    (codes "scalarset P undefined; typedef t {P, main, f, L}; module main() { x : struct { f, P : boolean; }; layer L : { x.P := 0; } layer main : { x.f := 1; } }", valid) ∷ []

-- each instance from whose module its own module is reached
abbrev pub recursion : List (List ℕ × Answer)
recursion =
    -- two modules that contain each other, and `main` without them
    (codes "module a() { x : b(); } module b() { y : a(); } module main() { }", fault 10 17) ∷
    -- `main` contains the cycle and is not on it
    (codes "module main() { n : a(); } module a() { x : a(); }", fault 10 44) ∷
    -- the cycle leads through `main`
    (codes "module main() { n : a(); } module a() { x : boolean; y : b(); } module b() { z : main(); }", fault 10 20) ∷
    -- a module twice is no cycle
    (codes "module a() { } module b() { x, y : a(); } module main() { n : a(); k : b(); }", valid) ∷ []

-- the smallest place, and at one place the smallest number
abbrev pub smallest_place : List (List ℕ × Answer)
smallest_place =
    -- fault 8 before fault 7
    (codes "module main() { x : boolean; x : boolean; x := y; }", fault 8 29) ∷
    -- fault 9 before all others
    (codes "module m() { x := y; }", fault 9 0) ∷
    -- fault 7 before fault 8 at one place
    (codes "module m() { b : boolean; input b : boolean; } module main() { }", fault 7 32) ∷
    -- fault 10 before fault 11 at one place
    (codes "module m(a) { input a : boolean; n : m(); } module main() { }", fault 10 37) ∷
    -- fault 7 though the size is above a limit
    (codes "module main() { x : array 0..255 of array 0..255 of boolean; x := y; }", fault 7 66) ∷ []

-- limits of the size
abbrev pub sizes : List (List ℕ × Answer)
sizes =
    -- four index types
    (codes "module main() { x : array 0..1 of array 0..1 of array 0..1 of array 0..1 of boolean; }", valid) ∷
    -- five, in a module that is not used
    (codes "module m() { x : array 0..1 of array 0..1 of array 0..1 of array 0..1 of array 0..1 of boolean; } module main() { }", valid) ∷
    -- five, in a module that is used
    (codes "module m() { x : array 0..1 of array 0..1 of array 0..1 of array 0..1 of array 0..1 of boolean; } module main() { n : m(); }", fault 25 105) ∷
    -- an array over an enumeration counts as an index
    (codes "typedef t {red}; module main() { x : array t of array t of array t of array t of array t of boolean; }", fault 25 24) ∷
    -- 256 elements
    (codes "module main() { x : array 0..255 of boolean; }", valid) ∷
    -- 512 elements
    (codes "module main() { x : array 0..255 of array boolean of boolean; }", fault 25 7) ∷
    -- sizes by a named range
    (codes "typedef r 1..16; module main() { x : array r of array r of array 0..1 of boolean; }", fault 25 24) ∷
    -- a set type does not count into the product
    (codes "scalarset P undefined; module main() { x : array P of array 0..255 of array P of boolean; }", valid) ∷
    -- a range without a number has size 0
    (codes "module main() { x : array 3..2 of array 0..255 of array 0..255 of boolean; }", valid) ∷
    -- 65,536 statements
    (codes "module main() { for (a = 0; a < 255; a = a + 1) for (b = 0; b < 255; b = b + 1) { } for (c = 0; c < 254; c = c + 1) { } }", valid) ∷
    -- one more
    (codes "module main() { for (a = 0; a < 255; a = a + 1) for (b = 0; b < 255; b = b + 1) { } for (c = 0; c < 255; c = c + 1) { } }", fault 25 7) ∷
    -- a connection and a layer count too: 65,536 again
    (codes "module m(a) { input a : boolean; layer L : { for (b = 0; b < 252; b = b + 1) { } } } module main() { x : boolean; for (a = 0; a < 255; a = a + 1) for (b = 0; b < 255; b = b + 1) { } n : m(x); }", valid) ∷
    -- one more
    (codes "module m(a) { input a : boolean; layer L : { for (b = 0; b < 253; b = b + 1) { } } } module main() { x : boolean; for (a = 0; a < 255; a = a + 1) for (b = 0; b < 255; b = b + 1) { } n : m(x); }", fault 25 92) ∷
    -- a `for` without a turn counts once
    (codes "module main() { for (a = 3; a < 2; a = a + 1) for (b = 0; b < 511; b = b + 1) for (c = 0; c < 511; c = c + 1) { } }", valid) ∷
    -- an array over a struct counts as an index
    (codes "typedef t struct { f : boolean; }; module main() { x : array t of array t of array t of array t of array t of boolean; }", fault 25 42) ∷
    -- an enumeration does not count into the product
    (codes "typedef t {a, b, c}; module main() { x : array t of array 0..255 of boolean; }", valid) ∷
    -- the turns of a `for` without a turn do not count: 65,536 again
    (codes "module main() { for (a = 0; a < 255; a = a + 1) for (b = 0; b < 255; b = b + 1) { } for (c = 0; c < 253; c = c + 1) { } for (d = 1; d < 1; d = d + 1) for (e = 0; e < 511; e = e + 1) { } }", valid) ∷
    -- one more
    (codes "module main() { for (a = 0; a < 255; a = a + 1) for (b = 0; b < 255; b = b + 1) { } for (c = 0; c < 254; c = c + 1) { } for (d = 1; d < 1; d = d + 1) for (e = 0; e < 511; e = e + 1) { } }", fault 25 7) ∷ []
