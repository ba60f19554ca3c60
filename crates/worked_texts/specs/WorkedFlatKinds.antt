-- Worked texts, each with the answer that was worked out for its flattened text by hand. All names in them are right.
use Rattle.std.specs.Prelude.{ℕ, List, [], ◌∷◌, codes, Some, Bool, true, false}
use Rattle.smv_core.specs.declared.tree.Kind.TheVariants.{Comb}
use Rattle.smv_core.specs.declared.flat.Simple.TheVariants.{Range, Enum, Set}
use Rattle.smv_core.specs.declared.flat.FlatExpr.{Number, Read, Var, Constant, All}
use Rattle.smv_core.specs.declared.flat.FlatStmt.{Assign, Forall}
use Rattle.smv_core.specs.declared.flat.FlatItem.{FlatItem}
use Rattle.smv_core.specs.declared.flat.Family.{Family}
use Rattle.smv_core.specs.declared.flat.FlatText.{FlatText}
use Rattle.worked_texts.specs.Tomasulo.{machine}
use Rattle.worked_texts.specs.Right.{small}
use Rattle.worked_texts.specs.FlatteningWorked.{of_type, unsized, outside}

-- texts that keep the rules
abbrev pub right : List (List ℕ × Bool)
right =
    (codes "module main() { }", true) ∷
    -- an instance, an enumeration, a loop, a switch, binders and a claim
    (small, true) ∷
    -- a number beside a value of a set type, for its target, and as an index over it
    (codes "scalarset P 0..1; module main() { x : P; y : array P of boolean; x := 1; y[0] := x = 1; p : assert G (x in {x, 1}); }", true) ∷
    -- a set as a branch of a value
    (codes "module main() { x : boolean; c : {red, green}; c := x ? {red, green} : green; }", true) ∷
    -- orders of numbers and of values of one set type
    (codes "ordset T undefined; module main() { x, y : T; n : 0..3; p : assert G (x < y & n <= 2); }", true) ∷
    -- a split of a claim
    (codes "scalarset P undefined; module main() { x : P; p : assert G 1; forall (i in P) subcase s[i] of p for x = i; }", true) ∷ []

-- operands that do not fit
abbrev pub operands : List (List ℕ × Bool)
operands =
    -- a number beside a constant
    (codes "module main() { x : boolean; c : {red}; p : assert G (x = red); }", false) ∷
    -- constants of two enumerations
    (codes "module main() { c : {red}; d : {blue}; p : assert G (c = blue); }", false) ∷
    -- values of two set types
    (codes "scalarset P undefined; scalarset Q undefined; module main() { x : P; y : Q; p : assert G (x = y); }", false) ∷
    -- logic, arithmetic, a condition and a claim over what is no number
    (codes "module main() { c : {red}; p : assert G ~c; }", false) ∷
    (codes "module main() { c : {red}; x : 0..3; x := 1 + c; }", false) ∷
    (codes "module main() { c : {red}; x : boolean; if (c) x := 1; }", false) ∷
    (codes "scalarset P undefined; module main() { x : P; p : assert G x; }", false) ∷
    (codes "scalarset P undefined; module main() { x : P; p : assert G (&[ i : i in P ]); }", false) ∷
    -- an order of constants
    (codes "module main() { c : {red, green}; p : assert G (c < green); }", false) ∷
    -- a remainder by 0
    (codes "module main() { x : 0..3; x := 2 mod 0; }", false) ∷
    -- the branches of `?:`, the labels of a `switch`, and the members of a set
    (codes "module main() { x : boolean; c : {red}; p : assert G ((x ? c : 1) = red); }", false) ∷
    (codes "module main() { x : boolean; c : {red}; switch (c) { red, 1 : x := 1; } }", false) ∷
    (codes "module main() { x : boolean; c : {red}; p : assert G (x in {0, c}); }", false) ∷
    -- a number that a value of a set type follows, and then one of another set type
    (codes "scalarset P undefined; scalarset Q undefined; module main() { x : P; y : Q; p : assert G (1 in {x, y}); }", false) ∷
    -- a value of another kind than its target
    (codes "module main() { x : boolean; c : {red}; c := x; }", false) ∷
    (codes "scalarset P undefined; module main() { x : P; n : 0..3; n := x; }", false) ∷
    -- an expression of a split
    (codes "scalarset P undefined; module main() { x : P; p : assert G 1; forall (i in P) subcase s[i] of p for 1 + x = i; }", false) ∷ []

-- references that are not whole, and indexes of other kinds than their types
abbrev pub references : List (List ℕ × Bool)
references =
    (codes "module main() { x : array 0..1 of boolean; p : assert G x; }", false) ∷
    (codes "module main() { x : array 0..1 of boolean; x := 1; }", false) ∷
    (codes "module main() { x : boolean; p : assert G x[0]; }", false) ∷
    (codes "module main() { x : array 0..1 of boolean; c : {red}; p : assert G x[c]; }", false) ∷
    (codes "scalarset P undefined; module main() { x : array 0..1 of boolean; y : P; p : assert G x[y]; }", false) ∷
    (codes "scalarset P undefined; scalarset Q undefined; module main() { x : array P of boolean; y : Q; x[y] := 1; }", false) ∷
    -- an argument of another kind than its formal
    (codes "module m(a) { input a : boolean; } module main() { c : {red}; n : m(c); }", false) ∷
    (codes "module m(a) { output a : boolean; } module main() { c : {red}; n : m(c); }", false) ∷ []

-- types
abbrev pub types : List (List ℕ × Bool)
types =
    -- ranges that are reversed or go past 255, and the size of a set type
    (codes "module main() { x : 3..2; }", false) ∷
    (codes "module main() { x : 0..256; }", false) ∷
    (codes "module main() { x : 0..255; }", true) ∷
    (codes "module main() { x : array 1..0 of boolean; }", false) ∷
    (codes "scalarset P 0..256; module main() { }", false) ∷
    (codes "scalarset P 0..255; module main() { }", true) ∷
    -- binders over what is no index type
    (codes "typedef C {red}; module main() { p : assert G (&[ 1 : i in C ]); }", false) ∷
    (codes "typedef C {red}; module main() { x : boolean; forall (i in C) x := 1; }", false) ∷
    (codes "typedef C {red}; module main() { forall (i in C) p[i] : assert G 1; }", false) ∷
    (codes "module main() { p : assert G (|[ 1 : i in 1..0 ]); }", false) ∷
    (codes "typedef C {red}; module main() { x : array C of boolean; }", false) ∷ []

-- sets where none may stand
abbrev pub sets : List (List ℕ × Bool)
sets =
    (codes "module main() { x : boolean; p : assert G (x = {0, 1}); }", false) ∷
    (codes "module main() { x : boolean; x := ~{0, 1}; }", false) ∷
    (codes "module main() { x : boolean; p : assert G (x in {i : i in 0..1}); }", false) ∷
    -- a span that is reversed, and a condition that is no number
    (codes "module main() { x : 0..3; x := {2..1}; }", false) ∷
    (codes "module main() { x : 0..3; p : assert G (x in {3, 2..1}); }", false) ∷
    (codes "scalarset P undefined; module main() { x : P; x := {i : i in P, i}; }", false) ∷
    -- a comprehension of another kind than its target
    (codes "scalarset P undefined; module main() { x : boolean; x := {i : i in P}; }", false) ∷ []

-- a broken rule counts wherever it stands
abbrev pub places : List (List ℕ × Bool)
places =
    (codes "module main() { x : boolean; c : {red}; layer L : { x := c; } }", false) ∷
    (codes "module main() { x : boolean; c : {red}; if (x) { } else next(x) := c; }", false) ∷
    (codes "module main() { x : boolean; c : {red}; default x := 0; in init(x) := red; }", false) ∷
    (codes "module main() { x : boolean; c : {red}; for (k = 0; k < 2; k = k + 1) c := k; }", false) ∷
    (codes "module m() { c : {red}; p : assert G c; } module main() { n : m(); }", false) ∷
    -- in a module without instances a rule is broken in the text, and no part of the flattened text is met
    (codes "module m() { c : {red}; p : assert G c; } module main() { }", true) ∷ []

-- ---- flattened texts that no text has

abbrev flat_text_of : List Family → List FlatItem → FlatText
flat_text_of families items = record { sets = unsized (codes "P") ∷ []; enums = (codes "red" ∷ []) ∷ []; layers = []; families = families; items = items }

-- a number for each family, and a constant for each enumeration
abbrev bit : Family
bit = of_type (codes "x") [] (Range 0 1) 0

abbrev pub numbers : List (FlatText × Bool)
numbers =
    (flat_text_of (bit ∷ []) (outside (Assign Comb 0 [] (Number 1 0) 0) ∷ []), true) ∷
    -- no family, enumeration, constant or variable of this number
    (flat_text_of (bit ∷ []) (outside (Assign Comb 1 [] (Number 1 0) 0) ∷ []), false) ∷
    (flat_text_of (bit ∷ []) (outside (Assign Comb 0 [] (Read 1 [] 0) 0) ∷ []), false) ∷
    (flat_text_of (bit ∷ []) (outside (Assign Comb 0 [] (Var 0 0) 0) ∷ []), false) ∷
    (flat_text_of (of_type (codes "c") [] (Enum 0) 0 ∷ []) (outside (Assign Comb 0 [] (Constant 0 0 0) 0) ∷ []), true) ∷
    (flat_text_of (of_type (codes "c") [] (Enum 0) 0 ∷ []) (outside (Assign Comb 0 [] (Constant 0 1 0) 0) ∷ []), false) ∷
    (flat_text_of (of_type (codes "c") [] (Enum 1) 0 ∷ []) [], false) ∷
    (flat_text_of (of_type (codes "y") [] (Set 0) 0 ∷ []) [], true) ∷
    (flat_text_of (of_type (codes "y") [] (Set 1) 0 ∷ []) [], false) ∷
    -- a variable with the number of another
    (flat_text_of (bit ∷ []) (outside (Forall 0 (Range 0 1) (Assign Comb 0 [] (All (Var 1 0) 1 (Range 0 1) 0) 0)) ∷ []), true) ∷
    (flat_text_of (bit ∷ []) (outside (Forall 0 (Range 0 1) (Assign Comb 0 [] (All (Var 0 0) 0 (Range 0 1) 0) 0)) ∷ []), false) ∷
    -- an enumeration of nothing, and a set type of no value
    (record (flat_text_of [] []) { enums = [] ∷ [] }, false) ∷
    (record (flat_text_of [] []) { sets = record (unsized (codes "P")) { size = Some 0 } ∷ [] }, false) ∷ []

-- the reduced Tomasulo machine
abbrev pub tomasulo : List (List ℕ × Bool)
tomasulo = (machine, true) ∷ []
