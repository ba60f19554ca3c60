-- Worked texts with the definitions that are made of them, and a few whole designs. Each was written by hand from the rules, the places too.
use Rattle.std.specs.Prelude.{ℕ, List, [], ◌∷◌, codes, Option, Some, None, false}
use Rattle.smv_core.specs.declared.tree.Use.TheVariants.{Plain}
use Rattle.smv_core.specs.declared.flat.Simple.TheVariants.{Range, Enum, Set}
use Rattle.smv_core.specs.declared.flat.FlatMember.{One}
use Rattle.smv_core.specs.declared.flat.FlatExpr.{Number, Read, Var, Loop, Not, Or, Within, List as ListOf, Each}
use Rattle.smv_core.specs.declared.flat.DefBody.{DefBody, Nothing, Assign, If, First, Forall}
use Rattle.smv_core.specs.declared.flat.Def.{Def}
use Rattle.smv_core.specs.declared.flat.Design.{Design}
use Rattle.worked_texts.specs.Tomasulo.{machine}
use Rattle.worked_texts.specs.FlatteningWorked.{of_type, unsized, word, param}

-- the definition of a family in a layer or outside layers, by its parts and by the place and the offset of its first assignment
abbrev pub def : Option ℕ → ℕ → DefBody → DefBody → DefBody → ℕ → ℕ → Def
def layer family init next comb place at = record { family = family; layer = layer; init = init; next = next; comb = comb; place = place; at = at }

-- one that has `:=` alone, and one that has `next` alone
abbrev pub comb_of : Option ℕ → ℕ → ℕ → ℕ → DefBody → Def
comb_of layer family place at comb = def layer family Nothing Nothing comb place at

abbrev pub next_of : Option ℕ → ℕ → ℕ → ℕ → DefBody → Def
next_of layer family place at next = def layer family Nothing next Nothing place at

abbrev pub definitions : List (List ℕ × List Def)
definitions =
    -- one definition for each family, by their first assignments; what no branch assigns gives nothing
    (codes "module main() { x : array 0..1 of boolean; c : boolean; if (c) next(x[0]) := 1; }", next_of None 0 0 63 (If (Read 1 [] 60) (Assign (Number 0 70 ∷ []) (Number 1 77) 0 63) Nothing) ∷ []) ∷
    -- in a `default` the second part goes before the first, what gives nothing is left out, and one part alone is itself
    (codes "module main() { x, y : boolean; default { next(x) := 0; next(y) := 1; } in if (y) next(x) := y; }", next_of None 0 0 42 (First (If (Read 1 [] 79) (Assign [] (Read 1 [] 93) 2 82) Nothing ∷ Assign [] (Number 0 53) 0 42 ∷ [])) ∷ next_of None 1 1 56 (Assign [] (Number 1 67) 1 56) ∷ []) ∷
    -- the three kinds of one family
    (codes "module main() { x : array 0..1 of boolean; next(x[0]) := 1; x[1] := 0; init(x[0]) := 0; }", def None 0 (Assign (Number 0 78 ∷ []) (Number 0 85) 2 71) (Assign (Number 0 50 ∷ []) (Number 1 57) 0 43) (Assign (Number 1 62 ∷ []) (Number 0 68) 1 60) 0 43 ∷ []) ∷
    -- a definition for each family and layer, in the order of first assignments; a layer of one name in two places is one
    (codes "module main() { x, y, z : boolean; layer L : { y := 0; x := 1; } x := 0; layer K : { x := 0; } layer L : { z := 0; } }", comb_of (Some 0) 1 0 47 (Assign [] (Number 0 52) 0 47) ∷ comb_of (Some 0) 0 1 55 (Assign [] (Number 1 60) 1 55) ∷ comb_of None 0 2 65 (Assign [] (Number 0 70) 2 65) ∷ comb_of (Some 1) 0 3 85 (Assign [] (Number 0 90) 3 85) ∷ comb_of (Some 0) 2 4 107 (Assign [] (Number 0 112) 4 107) ∷ []) ∷
    -- the copies of a `for` are the parts of one `First`, which is not regrouped
    (codes "module main() { x : array 0..2 of boolean; for (k = 0; k < 2; k = k + 1) x[k] := k; x[2] := 1; }", comb_of None 0 0 73 (First (First (Assign (Loop 0 75 ∷ []) (Loop 0 81) 0 73 ∷ Assign (Loop 1 75 ∷ []) (Loop 1 81) 1 73 ∷ []) ∷ Assign (Number 2 86 ∷ []) (Number 1 92) 2 84 ∷ [])) ∷ []) ∷
    -- a `switch` is one `If` inside another; an arm that assigns another family gives nothing
    (codes "module main() { s : 0..2; x, y : boolean; switch (s) { 0 : x := 0; 1 : y := 0; default : x := 1; } }", comb_of None 1 0 59 (If (Within (Read 0 [] 50) (ListOf (One (Number 0 55) ∷ []) 55)) (Assign [] (Number 0 64) 0 59) (If (Within (Read 0 [] 50) (ListOf (One (Number 1 67) ∷ []) 67)) Nothing (Assign [] (Number 1 94) 2 89))) ∷ comb_of None 2 1 71 (If (Within (Read 0 [] 50) (ListOf (One (Number 0 55) ∷ []) 55)) Nothing (If (Within (Read 0 [] 50) (ListOf (One (Number 1 67) ∷ []) 67)) (Assign [] (Number 0 76) 1 71) Nothing)) ∷ []) ∷
    -- under a `forall` nothing is left of what assigns another family
    (codes "scalarset P undefined; module main() { x, y : array P of boolean; forall (i in P) { x[i] := 0; } forall (i in P) { { init(y[i]) := x[i]; } if (x[i]) next(y[i]) := 1; } }", comb_of None 0 0 84 (Forall 0 (Set 0) (Assign (Var 0 86 ∷ []) (Number 0 92) 0 84)) ∷ def None 1 (Forall 0 (Set 0) (Assign (Var 0 124 ∷ []) (Read 0 (Var 0 133 ∷ []) 131) 1 117)) (Forall 0 (Set 0) (If (Read 0 (Var 0 145 ∷ []) 143) (Assign (Var 0 156 ∷ []) (Number 1 163) 2 149) Nothing)) Nothing 1 117 ∷ []) ∷
    -- statements of one set are the parts of a `First`, and a place counts the claims before it
    (codes "module main() { x : array 0..1 of boolean; p : assert G 1; x[0] := 0; q : assert G 1; if (x[0]) x[1] := 1; }", comb_of None 0 1 59 (First (Assign (Number 0 61 ∷ []) (Number 0 67) 1 59 ∷ If (Read 0 (Number 0 92 ∷ []) 90) (Assign (Number 1 98 ∷ []) (Number 1 104) 3 96) Nothing ∷ [])) ∷ []) ∷
    -- connections
    (codes "module m(a, b) { input a : boolean; output b : boolean; b := a; } module main() { x : boolean; n : m(1, x); }", comb_of None 1 0 101 (Assign [] (Number 1 101) 0 101) ∷ comb_of None 0 1 104 (Assign [] (Read 2 [] 104) 1 104) ∷ comb_of None 2 2 56 (Assign [] (Read 1 [] 61) 2 56) ∷ []) ∷
    -- no assignment, no definition
    (codes "module main() { x : boolean; layer L : { } { } if (x) { } for (k = 0; k < 0; k = k + 1) x := 0; }", []) ∷ []

-- the definitions of the reduced Tomasulo machine, each by its layer, its family and the place of its first assignment
abbrev pub heads : List (List ℕ × List (Option ℕ × ℕ × ℕ))
heads = (
  machine,
  (None, 7, 0) ∷ (None, 8, 1) ∷ (None, 11, 2) ∷ (None, 12, 3) ∷ (None, 24, 4) ∷ (None, 13, 5) ∷ (None, 15, 7) ∷ (None, 14, 9) ∷ (None, 16, 10) ∷ (None, 17, 12) ∷ (None, 19, 13) ∷ (None, 18, 16) ∷
      (Some 0, 9, 18) ∷ (Some 0, 10, 19) ∷ (Some 0, 20, 20) ∷ (Some 0, 21, 22) ∷ (Some 0, 22, 23) ∷ (Some 0, 23, 24) ∷ (Some 0, 12, 25) ∷
      (Some 1, 19, 26) ∷ (Some 1, 11, 27) ∷ (Some 1, 15, 28) ∷ [],
) ∷ []

-- whole designs
abbrev pub designs : List (List ℕ × Design)
designs =
    -- a toggle and its claim
    (
      codes "module main() { x : boolean; init(x) := 0; next(x) := ~x; p : assert G (x | ~x); }",
      record {
        sets = [];
        enums = [];
        layers = [];
        families = of_type (codes "x") [] (Range 0 1) 16 ∷ [];
        defs = def None 0 (Assign [] (Number 0 40) 0 29) (Assign [] (Not (Read 0 [] 55) 54) 1 43) Nothing 0 29 ∷ [];
        claims = record { name = codes "p"; vars = []; params = []; body = Or (Read 0 [] 72 ∷ Not (Read 0 [] 77) 76 ∷ []); place = 2; at = 58 } ∷ [];
        splits = [];
        uses = [];
      },
    ) ∷
    -- a set type, an enumeration, a layer, a split and what is used
    (
      codes "scalarset P undefined; module main() { x : P; c : {on, off}; layer L : { x := {i : i in P}; } p : assert G 1; forall (i in P) subcase s[i] of p for x = i; using x//L prove s; }",
      record {
        sets = unsized (codes "P") ∷ [];
        enums = (codes "on" ∷ codes "off" ∷ []) ∷ [];
        layers = codes "L" ∷ [];
        families = of_type (codes "x") [] (Set 0) 39 ∷ of_type (codes "c") [] (Enum 0) 46 ∷ [];
        defs = comb_of (Some 0) 0 0 73 (Assign [] (Each 0 (Set 0) None 78) 0 73) ∷ [];
        claims = record { name = codes "p"; vars = []; params = []; body = Number 1 107; place = 1; at = 94 } ∷ [];
        splits = record { name = codes "s"; vars = word (codes "i") 136 ∷ []; of = record { path = word (codes "p") 142 ∷ []; names = []; layer = None; free = false; at = 142 }; bound = param 0 (Set 0) (codes "i") ∷ []; pairs = record { left = Read 0 [] 148; right = word (codes "i") 152; at = 148 } ∷ []; at = 126 } ∷ [];
        uses = record { prefix = []; bound = []; uses = Plain (record { path = word (codes "x") 161 ∷ []; names = []; layer = Some (word (codes "L") 164); free = false; at = 161 }) ∷ []; proves = record { path = word (codes "s") 172 ∷ []; names = []; layer = None; free = false; at = 172 } ∷ []; at = 155 } ∷ [];
      },
    ) ∷ []
