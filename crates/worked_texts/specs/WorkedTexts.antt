-- Worked texts by theme, each with the part of its flattened text that the theme is about. Each was written by hand from the rules, the places too.
use Rattle.std.specs.Prelude.{ℕ, List, [], ◌∷◌, codes, Some, None, true, false}
use Rattle.smv_core.specs.declared.tree.Kind.TheVariants.{Comb, Init, Next}
use Rattle.smv_core.specs.declared.tree.Op.TheVariants.{Equal, Differ, Less}
use Rattle.smv_core.specs.declared.tree.Use.TheVariants.{Plain, Early, Keep}
use Rattle.smv_core.specs.declared.flat.Simple.TheVariants.{Range, Enum, Set}
use Rattle.smv_core.specs.declared.flat.Family.{Family}
use Rattle.smv_core.specs.declared.flat.FlatItem.{FlatItem}
use Rattle.smv_core.specs.declared.flat.FlatText.{FlatText}
use Rattle.smv_core.specs.declared.flat.FlatItem.TheVariants.{Claim as Claimed, Split as Splits, Using as Uses}
use Rattle.smv_core.specs.declared.flat.FlatMember.{One, Span}
use Rattle.smv_core.specs.declared.flat.FlatExpr.{Number, Read, Var, Loop, Constant, Not, And, Or, Implies, Iff, Compare, Within, Sum, Modulo, Choose, All, Any, List as ListOf, Each}
use Rattle.smv_core.specs.declared.flat.FlatStmt.{Assign, If, Block, Default, Forall}
use Rattle.worked_texts.specs.FlatteningWorked.{Front, of_type, is_spec, unsized, outside, in_layer, plus, minus, word, param}

-- the families: in flat order, with dotted names, the types of their indexes and of their value
abbrev pub families : List (List ℕ × List Family)
families =
    -- one for each field of a struct in an array
    (codes "scalarset P undefined; module main() { x : array P of struct { a : boolean; b : 0..3; }; }", of_type (codes "x.a") (Set 0 ∷ []) (Range 0 1) 39 ∷ of_type (codes "x.b") (Set 0 ∷ []) (Range 0 3) 39 ∷ []) ∷
    -- an array in a struct in an array: the outer index comes first
    (codes "typedef t struct { a : array 0..2 of boolean; b, c : 0..1; }; module main() { x : array 4..5 of t; y : t; }", of_type (codes "x.a") (Range 4 5 ∷ Range 0 2 ∷ []) (Range 0 1) 78 ∷ of_type (codes "x.b") (Range 4 5 ∷ []) (Range 0 1) 78 ∷ of_type (codes "x.c") (Range 4 5 ∷ []) (Range 0 1) 78 ∷ of_type (codes "y.a") (Range 0 2 ∷ []) (Range 0 1) 99 ∷ of_type (codes "y.b") [] (Range 0 1) 99 ∷ of_type (codes "y.c") [] (Range 0 1) 99 ∷ []) ∷
    -- a struct in an array in a struct
    (codes "module main() { x : array boolean of struct { s : array 2..3 of struct { a : boolean; }; b : boolean; }; }", of_type (codes "x.s.a") (Range 0 1 ∷ Range 2 3 ∷ []) (Range 0 1) 16 ∷ of_type (codes "x.b") (Range 0 1 ∷ []) (Range 0 1) 16 ∷ []) ∷
    -- those of instances stand at their declarations, behind their prefixes
    (codes "module k() { a : boolean; } module m() { b : boolean; n : k(); c : boolean; } module main() { x : boolean; p, q : m(); y : boolean; }", of_type (codes "x") [] (Range 0 1) 94 ∷ of_type (codes "p.b") [] (Range 0 1) 41 ∷ of_type (codes "p.n.a") [] (Range 0 1) 13 ∷ of_type (codes "p.c") [] (Range 0 1) 63 ∷ of_type (codes "q.b") [] (Range 0 1) 41 ∷ of_type (codes "q.n.a") [] (Range 0 1) 13 ∷ of_type (codes "q.c") [] (Range 0 1) 63 ∷ of_type (codes "y") [] (Range 0 1) 119 ∷ []) ∷
    -- enumerations, set types and an abstract signal
    (codes "ordset T undefined; scalarset P 1..3; typedef c {red, green}; module main() { x : c; y : array T of {on, off}; abstract z : P; w : {red, green}; }", of_type (codes "x") [] (Enum 0) 78 ∷ of_type (codes "y") (Set 0 ∷ []) (Enum 1) 85 ∷ is_spec (of_type (codes "z") [] (Set 1) 120) ∷ of_type (codes "w") [] (Enum 0) 127 ∷ []) ∷
    -- formals of `main` are signals; the names of one declaration in their order
    (codes "module main(d, c) { a, b : boolean; input c : 0..7; output d : boolean; }", of_type (codes "a") [] (Range 0 1) 20 ∷ of_type (codes "b") [] (Range 0 1) 23 ∷ of_type (codes "c") [] (Range 0 7) 42 ∷ of_type (codes "d") [] (Range 0 1) 59 ∷ []) ∷
    -- a typedef of a typedef, and an index type with a name
    (codes "typedef r 1..2; typedef s r; typedef t array r of s; module main() { x : array s of t; }", of_type (codes "x") (Range 1 2 ∷ Range 1 2 ∷ []) (Range 1 2) 69 ∷ []) ∷ []

-- the set types, enumerations and layers
abbrev pub fronts : List (List ℕ × Front)
fronts =
    -- set types in their order with their sizes; a layer at its first place, also without a statement, and none of a module that is not used
    (codes "scalarset A undefined; module u() { layer Z : { } } module m() { layer L : { } } ordset B undefined; scalarset C 3..7; module main() { layer K : { } n : m(); layer L : { } layer K : { } }", (unsized (codes "A") ∷ record { name = codes "B"; ordered = true; size = None } ∷ record { name = codes "C"; ordered = false; size = Some 5 } ∷ [], [], codes "K" ∷ codes "L" ∷ [])) ∷
    -- enumerations as they are written, each list once, also where nothing uses them
    (codes "typedef t {b, a}; module u() { c : array 0..1 of {on, off}; } module main() { x : {b, a}; y : struct { f : {low}; g : t; }; z : {off2}; w : {on, off}; }", ([], (codes "b" ∷ codes "a" ∷ []) ∷ (codes "on" ∷ codes "off" ∷ []) ∷ (codes "low" ∷ []) ∷ (codes "off2" ∷ []) ∷ [], [])) ∷
    -- no bytes but `main`
    (codes "module main() { }", ([], [], [])) ∷ []

-- what a path becomes: an element, a variable, a value of a `for` or a constant
abbrev pub paths : List (List ℕ × List FlatItem)
paths =
    -- a constant, and a variable
    (codes "module main() { x : {red, green}; y : array 0..1 of boolean; x := green; forall (i in 0..1) y[i] := i; }", outside (Assign Comb 0 [] (Constant 0 1 66) 61) ∷ outside (Forall 0 (Range 0 1) (Assign Comb 1 (Var 0 94 ∷ []) (Var 0 100) 92)) ∷ []) ∷
    -- a constant of a module that is not used
    (codes "module u() { c : {on, off}; } module main() { x : boolean; d : {a}; x := d = a; x := off = on; }", outside (Assign Comb 0 [] (Compare Equal (Read 1 [] 73) (Constant 1 0 77)) 68) ∷ outside (Assign Comb 0 [] (Compare Equal (Constant 0 1 85) (Constant 0 0 91)) 80) ∷ []) ∷
    -- a field behind an index, and an element of an instance of an instance
    (codes "module k() { s : array 0..1 of struct { a, b : boolean; }; } module m() { n : k(); } module main() { x : boolean; p : m(); x := p.n.s[1].b; }", outside (Assign Comb 0 [] (Read 2 (Number 1 134 ∷ []) 128) 123) ∷ []) ∷
    -- an index that is an element
    (codes "module main() { x : array 0..1 of array 0..1 of boolean; y, z : 0..1; x[y][x[z][0]] := 1; }", outside (Assign Comb 0 (Read 1 [] 72 ∷ Read 0 (Read 2 [] 77 ∷ Number 0 80 ∷ []) 75 ∷ []) (Number 1 87) 70) ∷ []) ∷
    -- the signals of an instance before those of `main` of the same name
    (codes "module m() { x : boolean; y : boolean; x := y; } module main() { x, y : boolean; x := y; n : m(); }", outside (Assign Comb 0 [] (Read 1 [] 86) 81) ∷ outside (Assign Comb 2 [] (Read 3 [] 44) 39) ∷ []) ∷ []

-- an instance: its connections, and then its body
abbrev pub connections : List (List ℕ × List FlatItem)
connections =
    -- an input and an output
    (codes "module m(a, b) { input a : boolean; output b : boolean; b := ~a; } module main() { x, y, z : boolean; n : m(x & y, z); }", outside (Assign Comb 3 [] (And (Read 0 [] 108 ∷ Read 1 [] 112 ∷ [])) 108) ∷ outside (Assign Comb 2 [] (Read 4 [] 115) 115) ∷ outside (Assign Comb 4 [] (Not (Read 3 [] 62) 61) 56) ∷ []) ∷
    -- in the order of the formals, and not of their declarations
    (codes "module m(b, a) { input a : boolean; output b : boolean; } module main() { x, y : boolean; n : m(x, y); }", outside (Assign Comb 0 [] (Read 3 [] 96) 96) ∷ outside (Assign Comb 2 [] (Read 1 [] 99) 99) ∷ []) ∷
    -- the place is that of the first token of the argument other than `(`; an output with constant indexes
    (codes "module m(a, b) { input a : boolean; output b : boolean; } module main() { x : array 0..3 of boolean; n : m(((x[0]) | 1), x[2 + 1]); }", outside (Assign Comb 1 [] (Or (Read 0 (Number 0 111 ∷ []) 109 ∷ Number 1 117 ∷ [])) 109) ∷ outside (Assign Comb 0 (Sum (Number 2 123) (plus (Number 1 127) ∷ []) ∷ []) (Read 2 [] 121) 121) ∷ []) ∷
    -- inside an instance paths have its prefix
    (codes "module k(a) { input a : boolean; } module m(b) { input b : boolean; c : boolean; n : k(b | c); } module main() { x : boolean; p, q : m(x); }", outside (Assign Comb 1 [] (Read 0 [] 135) 135) ∷ outside (Assign Comb 3 [] (Or (Read 1 [] 87 ∷ Read 2 [] 91 ∷ [])) 87) ∷ outside (Assign Comb 4 [] (Read 0 [] 135) 135) ∷ outside (Assign Comb 6 [] (Or (Read 4 [] 87 ∷ Read 5 [] 91 ∷ [])) 87) ∷ []) ∷
    -- a set as the argument of an input
    (codes "module m(a) { input a : boolean; } module main() { n : m({0, 1}); }", outside (Assign Comb 0 [] (ListOf (One (Number 0 58) ∷ One (Number 1 61) ∷ []) 57) 57) ∷ []) ∷ []

-- a `for` is the block of its bodies, and a variable of it is its value
abbrev pub loops : List (List ℕ × List FlatItem)
loops =
    -- three turns by a step of 2
    (codes "module main() { x : array 0..7 of 0..7; for (i = 1; i <= 5; i = i + 2) x[i + 1] := i; }", outside (Block (Assign Comb 0 (Sum (Loop 1 73) (plus (Number 1 77) ∷ []) ∷ []) (Loop 1 83) 71 ∷ Assign Comb 0 (Sum (Loop 3 73) (plus (Number 1 77) ∷ []) ∷ []) (Loop 3 83) 71 ∷ Assign Comb 0 (Sum (Loop 5 73) (plus (Number 1 77) ∷ []) ∷ []) (Loop 5 83) 71 ∷ [])) ∷ []) ∷
    -- no turn
    (codes "module main() { x : boolean; for (i = 3; i < 3; i = i + 1) x := 0; }", outside (Block []) ∷ []) ∷
    -- the last number counts only under `<=`
    (codes "module main() { x : array 0..3 of boolean; for (i = 0; i < 2; i = i + 1) x[i] := 0; }", outside (Block (Assign Comb 0 (Loop 0 75 ∷ []) (Number 0 81) 73 ∷ Assign Comb 0 (Loop 1 75 ∷ []) (Number 0 81) 73 ∷ [])) ∷ []) ∷
    -- a loop in a loop
    (codes "module main() { x : array 0..1 of array 0..1 of boolean; for (a = 0; a < 2; a = a + 1) for (b = 0; b < 1; b = b + 1) { } }", outside (Block (Block (Block [] ∷ []) ∷ Block (Block [] ∷ []) ∷ [])) ∷ []) ∷
    -- a variable's number is how many variables are bound around; that of a `for` does not count
    (codes "module main() { x : array 0..1 of array 0..1 of array 0..1 of boolean; forall (i in 0..1) for (k = 0; k < 2; k = k + 1) forall (j in 0..1) x[i][k][j] := j; }", outside (Forall 0 (Range 0 1) (Block (Forall 1 (Range 0 1) (Assign Comb 0 (Var 0 141 ∷ Loop 0 144 ∷ Var 1 147 ∷ []) (Var 1 153) 139) ∷ Forall 1 (Range 0 1) (Assign Comb 0 (Var 0 141 ∷ Loop 1 144 ∷ Var 1 147 ∷ []) (Var 1 153) 139) ∷ []))) ∷ []) ∷
    -- what stands in a `for` without a turn is left out
    (codes "module main() { x : boolean; for (i = 2; i <= 1; i = i + 1) { x := 0; x := 1; } x := 1; }", outside (Block []) ∷ outside (Assign Comb 0 [] (Number 1 85) 80) ∷ []) ∷ []

-- a `switch` is a chain of `If`, and what is missing is an empty block
abbrev pub switches : List (List ℕ × List FlatItem)
switches =
    -- arms of one and more labels, and a default
    (codes "module main() { x, y : 0..3; switch (x) { 0, 2 : y := 1; 1 : y := 0; default : y := x; } }", outside (If (Within (Read 0 [] 37) (ListOf (One (Number 0 42) ∷ One (Number 2 45) ∷ []) 42)) (Assign Comb 1 [] (Number 1 54) 49) (If (Within (Read 0 [] 37) (ListOf (One (Number 1 57) ∷ []) 57)) (Assign Comb 1 [] (Number 0 66) 61) (Assign Comb 1 [] (Read 0 [] 84) 79))) ∷ []) ∷
    -- no default, and constants as labels
    (codes "module main() { c : {red, green}; y : boolean; switch (c) { green : y := 1; } }", outside (If (Within (Read 0 [] 55) (ListOf (One (Constant 0 1 60) ∷ []) 60)) (Assign Comb 1 [] (Number 1 73) 68) (Block [])) ∷ []) ∷
    -- no arm
    (codes "module main() { x : boolean; switch (x) { } switch (x) { default : x := 0; } }", outside (Block []) ∷ outside (Assign Comb 0 [] (Number 0 72) 67) ∷ []) ∷
    -- an `if` with and without `else`
    (codes "module main() { x, y : boolean; if (x) y := 1; if (x) y := 0; else y := x; }", outside (If (Read 0 [] 36) (Assign Comb 1 [] (Number 1 44) 39) (Block [])) ∷ outside (If (Read 0 [] 51) (Assign Comb 1 [] (Number 0 59) 54) (Assign Comb 1 [] (Read 0 [] 72) 67)) ∷ []) ∷
    -- a `default`, `init`, `next` and a block: the place of an assignment is its first byte
    (codes "module main() { x, y : boolean; default { init(x) := 0; next(x) := y; } in if (y) next(x) := 1; }", outside (Default (Block (Assign Init 0 [] (Number 0 53) 42 ∷ Assign Next 0 [] (Read 1 [] 67) 56 ∷ [])) (If (Read 1 [] 79) (Assign Next 0 [] (Number 1 93) 82) (Block []))) ∷ []) ∷
    -- no arm, as a branch: what it is on is not read
    (codes "module main() { x, y : boolean; if (x) switch (y) { } else y := x; }", outside (If (Read 0 [] 36) (Block []) (Assign Comb 1 [] (Read 0 [] 64) 59)) ∷ []) ∷ []

-- one Act for each statement of a layer or outside, inside a `Forall` for each binder around it
abbrev pub layers_and_binders : List (List ℕ × List FlatItem)
layers_and_binders =
    -- a layer of one name in two places
    (codes "module main() { x, y, z : boolean; layer L : { x := 0; } layer K : { y := 0; } z := 1; layer L : { z := 0; y := 1; } }", in_layer 0 (Assign Comb 0 [] (Number 0 52) 47) ∷ in_layer 1 (Assign Comb 1 [] (Number 0 74) 69) ∷ outside (Assign Comb 2 [] (Number 1 84) 79) ∷ in_layer 0 (Assign Comb 2 [] (Number 0 104) 99) ∷ in_layer 0 (Assign Comb 1 [] (Number 1 112) 107) ∷ []) ∷
    -- a layer of an instance is the same layer
    (codes "module m() { a : boolean; layer L : { a := 0; } } module main() { x : boolean; layer K : { x := 0; } n : m(); layer L : { x := 1; } }", in_layer 0 (Assign Comb 0 [] (Number 0 96) 91) ∷ in_layer 1 (Assign Comb 1 [] (Number 0 43) 38) ∷ in_layer 1 (Assign Comb 0 [] (Number 1 127) 122) ∷ []) ∷
    -- binders around a block of items
    (codes "scalarset P undefined; module main() { x : array P of array 0..1 of boolean; forall (i in P) { forall (j in 0..1) { init(x[i][j]) := 0; } forall (k in boolean) if (k) next(x[i][k]) := 1; } }", outside (Forall 0 (Set 0) (Forall 1 (Range 0 1) (Assign Init 0 (Var 0 123 ∷ Var 1 126 ∷ []) (Number 0 133) 116))) ∷ outside (Forall 0 (Set 0) (Forall 1 (Range 0 1) (If (Var 1 164) (Assign Next 0 (Var 0 174 ∷ Var 1 177 ∷ []) (Number 1 184) 167) (Block [])))) ∷ []) ∷
    -- braces in a statement are a block, braces around items are none
    (codes "module main() { x, y : boolean; { x := 0; { y := 1; } } layer L : { { x := 1; } } }", outside (Assign Comb 0 [] (Number 0 39) 34) ∷ outside (Assign Comb 1 [] (Number 1 49) 44) ∷ in_layer 0 (Block (Assign Comb 0 [] (Number 1 75) 70 ∷ [])) ∷ []) ∷ []

-- what is read, with the numbers of the variables that it binds
abbrev pub expressions : List (List ℕ × List FlatItem)
expressions =
    -- comprehensions with and without a condition
    (codes "module main() { x, y : 0..3; x := {i : i in 0..3, i < y}; y := {i : i in boolean}; }", outside (Assign Comb 0 [] (Each 0 (Range 0 3) (Some (Compare Less (Var 0 50) (Read 1 [] 54))) 34) 29) ∷ outside (Assign Comb 1 [] (Each 0 (Range 0 1) None 63) 58) ∷ []) ∷
    -- reductions, one in the other
    (codes "scalarset P undefined; module main() { x : boolean; y : array P of array 0..1 of boolean; x := &[ |[ y[i][j] : j in 0..1 ] : i in P ]; }", outside (Assign Comb 0 [] (All (Any (Read 1 (Var 0 103 ∷ Var 1 106 ∷ []) 101) 1 (Range 0 1) 98) 0 (Set 0) 95) 90) ∷ []) ∷
    -- a reduction inside a `forall`, beside another
    (codes "module main() { x : array 0..1 of boolean; forall (i in 0..1) next(x[i]) := &[ j = i : j in 0..3 ] | |[ k ~= 2 : k in 0..3 ]; }", outside (Forall 0 (Range 0 1) (Assign Next 0 (Var 0 69 ∷ []) (Or (All (Compare Equal (Var 1 79) (Var 0 83)) 1 (Range 0 3) 76 ∷ Any (Compare Differ (Var 1 104) (Number 2 109)) 1 (Range 0 3) 101 ∷ [])) 62)) ∷ []) ∷
    -- a listed set, and one on the right of `in`
    (codes "module main() { x, y : 0..3; x := {y, 2..3}; y := x in {0, 1..2}; }", outside (Assign Comb 0 [] (ListOf (One (Read 1 [] 35) ∷ Span (record { low = 2; high = 3 }) 38 ∷ []) 34) 29) ∷ outside (Assign Comb 1 [] (Within (Read 0 [] 50) (ListOf (One (Number 0 56) ∷ Span (record { low = 1; high = 2 }) 59 ∷ []) 55)) 45) ∷ []) ∷
    -- a conditional, sums and a remainder
    (codes "module main() { x, y : 0..7; x := y < 2 ? (y + 1) mod 4 : y - 1 + x; }", outside (Assign Comb 0 [] (Choose (Compare Less (Read 1 [] 34) (Number 2 38)) (Modulo (Sum (Read 1 [] 43) (plus (Number 1 47) ∷ [])) 4 54) (Sum (Read 1 [] 58) (minus (Number 1 62) ∷ plus (Read 0 [] 66) ∷ []))) 29) ∷ []) ∷
    -- chains of `->`, and `<->`
    (codes "module main() { x, y, z : boolean; x := y -> z -> 0 <-> y & 1 & z; }", outside (Assign Comb 0 [] (Iff (Implies (Read 1 [] 40 ∷ Read 2 [] 45 ∷ Number 0 50 ∷ [])) (And (Read 1 [] 56 ∷ Number 1 60 ∷ Read 2 [] 64 ∷ []))) 35) ∷ []) ∷ []

-- claims, splits and what is used: whole names, parameters from the outside in, and places
abbrev pub goals : List (List ℕ × List FlatItem)
goals =
    -- claims inside binders
    (codes "scalarset P undefined; module main() { x : array 0..1 of boolean; forall (i in 0..1) forall (j in P) p[i][j] : assert G (x[i] | j = j); q : assert G 1; }", Claimed (record { name = codes "p"; vars = word (codes "i") 103 ∷ word (codes "j") 106 ∷ []; params = param 0 (Range 0 1) (codes "i") ∷ param 1 (Set 0) (codes "j") ∷ []; body = Or (Read 0 (Var 0 123 ∷ []) 121 ∷ Compare Equal (Var 1 128) (Var 1 132) ∷ []); place = 0; at = 101 }) ∷ Claimed (record { name = codes "q"; vars = []; params = []; body = Number 1 149; place = 1; at = 136 }) ∷ []) ∷
    -- a claim's place counts the assignments, connections and claims before it, a loop written out
    (codes "module m(a) { input a : boolean; p : assert G a; } module main() { x : array 0..7 of boolean; for (i = 0; i < 3; i = i + 1) { x[i] := 0; next(x[i]) := 1; } n : m(x[0]); layer L : { if (x[1]) x[7] := 0; } q : assert G 0; }", outside (Block (Block (Assign Comb 0 (Loop 0 128 ∷ []) (Number 0 134) 126 ∷ Assign Next 0 (Loop 0 144 ∷ []) (Number 1 151) 137 ∷ []) ∷ Block (Assign Comb 0 (Loop 1 128 ∷ []) (Number 0 134) 126 ∷ Assign Next 0 (Loop 1 144 ∷ []) (Number 1 151) 137 ∷ []) ∷ Block (Assign Comb 0 (Loop 2 128 ∷ []) (Number 0 134) 126 ∷ Assign Next 0 (Loop 2 144 ∷ []) (Number 1 151) 137 ∷ []) ∷ [])) ∷ outside (Assign Comb 1 [] (Read 0 (Number 0 164 ∷ []) 162) 162) ∷ Claimed (record { name = codes "n.p"; vars = []; params = []; body = Read 1 [] 46; place = 7; at = 33 }) ∷ in_layer 0 (If (Read 0 (Number 1 187 ∷ []) 185) (Assign Comb 0 (Number 7 193 ∷ []) (Number 0 199) 191) (Block [])) ∷ Claimed (record { name = codes "q"; vars = []; params = []; body = Number 0 217; place = 9; at = 204 }) ∷ []) ∷
    -- a split and a `using` inside an instance: their references are made whole
    (codes "scalarset P undefined; module m() { x : P; p : assert G (x = x); forall (i in P) subcase s[i] of p for x = i; using x//free, (x//L), k.q, P->{i} prove s[i]; } module main() { n : m(); }", Claimed (record { name = codes "n.p"; vars = []; params = []; body = Compare Equal (Read 0 [] 57) (Read 0 [] 61); place = 0; at = 43 }) ∷ Splits (record { name = codes "n.s"; vars = word (codes "i") 91 ∷ []; of = record { path = word (codes "n") 97 ∷ word (codes "p") 97 ∷ []; names = []; layer = None; free = false; at = 97 }; bound = param 0 (Set 0) (codes "i") ∷ []; pairs = record { left = Read 0 [] 103; right = word (codes "i") 107; at = 103 } ∷ []; at = 81 }) ∷ Uses (record { prefix = codes "n"; bound = []; uses = Plain (record { path = word (codes "n") 116 ∷ word (codes "x") 116 ∷ []; names = []; layer = None; free = true; at = 116 }) ∷ Early (record { path = word (codes "n") 126 ∷ word (codes "x") 126 ∷ []; names = []; layer = Some (word (codes "L") 129); free = false; at = 126 }) ∷ Plain (record { path = word (codes "n") 133 ∷ word (codes "k") 133 ∷ word (codes "q") 135 ∷ []; names = []; layer = None; free = false; at = 133 }) ∷ Keep (word (codes "P") 138) (word (codes "i") 142 ∷ []) 138 ∷ []; proves = record { path = word (codes "n") 151 ∷ word (codes "s") 151 ∷ []; names = word (codes "i") 153 ∷ []; layer = None; free = false; at = 151 } ∷ []; at = 110 }) ∷ []) ∷
    -- a split of a map with brackets, inside binders and braces; what it splits is that of the text
    (codes "module main() { x, y : array 0..1 of boolean; layer L : { } forall (k in 0..1) { forall (c in boolean) subcase r[k][c] of x[k].f//L for y[k] = c, k = k; using y//free prove r; } }", Splits (record { name = codes "r"; vars = word (codes "k") 113 ∷ word (codes "c") 116 ∷ []; of = record { path = word (codes "x") 122 ∷ word (codes "f") 127 ∷ []; names = word (codes "k") 124 ∷ []; layer = Some (word (codes "L") 130); free = false; at = 122 }; bound = param 0 (Range 0 1) (codes "k") ∷ param 1 (Range 0 1) (codes "c") ∷ []; pairs = record { left = Read 1 (Var 0 138 ∷ []) 136; right = word (codes "c") 143; at = 136 } ∷ record { left = Var 0 146; right = word (codes "k") 150; at = 146 } ∷ []; at = 103 }) ∷ Uses (record { prefix = []; bound = param 0 (Range 0 1) (codes "k") ∷ []; uses = Plain (record { path = word (codes "y") 159 ∷ []; names = []; layer = None; free = true; at = 159 }) ∷ []; proves = record { path = word (codes "r") 173 ∷ []; names = []; layer = None; free = false; at = 173 } ∷ []; at = 153 }) ∷ []) ∷
    -- an instance of an instance: names with both
    (codes "module k() { p : assert G 1; using p prove p; } module m() { n : k(); } module main() { o : m(); }", Claimed (record { name = codes "o.n.p"; vars = []; params = []; body = Number 1 26; place = 0; at = 13 }) ∷ Uses (record { prefix = codes "o.n"; bound = []; uses = Plain (record { path = word (codes "o") 35 ∷ word (codes "n") 35 ∷ word (codes "p") 35 ∷ []; names = []; layer = None; free = false; at = 35 }) ∷ []; proves = record { path = word (codes "o") 43 ∷ word (codes "n") 43 ∷ word (codes "p") 43 ∷ []; names = []; layer = None; free = false; at = 43 } ∷ []; at = 29 }) ∷ []) ∷ []

-- a whole flattened text
abbrev pub wholes : List (List ℕ × FlatText)
wholes =
    -- a set type, a module with an input, an enumeration, a layer, an instance and a claim
    (
      codes "scalarset P undefined; module m(a) { input a : boolean; } module main() { x : {on, off}; y : boolean; layer L : { y := 1; } n : m(y); p : assert G (x = on); }",
      record {
        sets = unsized (codes "P") ∷ [];
        enums = (codes "on" ∷ codes "off" ∷ []) ∷ [];
        layers = codes "L" ∷ [];
        families = of_type (codes "x") [] (Enum 0) 74 ∷ of_type (codes "y") [] (Range 0 1) 89 ∷ of_type (codes "n.a") [] (Range 0 1) 43 ∷ [];
        items = in_layer 0 (Assign Comb 1 [] (Number 1 119) 114) ∷ outside (Assign Comb 2 [] (Read 1 [] 130) 130) ∷
            Claimed (record { name = codes "p"; vars = []; params = []; body = Compare Equal (Read 0 [] 148) (Constant 0 0 152); place = 2; at = 134 }) ∷ [];
      },
    ) ∷ []
