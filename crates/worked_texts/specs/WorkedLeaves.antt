-- Worked texts by theme, each with the leaves of its units, or with the guards that hold in a state at values of the leaf's parameters. Families are numbered
-- by their declarations; each was worked out by hand, the places too.
use Rattle.std.specs.Prelude.{ℕ, List, [], ◌∷◌, Bool, true, false, codes}
use Rattle.smv_core.specs.Values.{Value, number}
use Rattle.smv_core.specs.declared.flat.FlatExpr.{Read, Var}
use Rattle.worked_texts.specs.SplitsWorked.{Told, bit, P, value}

-- the leaf of a unit is the end of its chain of splits
abbrev pub ends : List (List ℕ × List Told)
ends =
    -- without a split the unit itself, in flat order
    (codes "scalarset P undefined; module main() { x : array P of boolean; layer L : { forall (i in P) x[i] := 0; } forall (i in 0..1) p[i] : assert G 1; }", (codes "x//L", P ∷ [], []) ∷ (codes "p", bit ∷ [], []) ∷ []) ∷
    -- one split
    (codes "module main() { x : boolean; p : assert G 1; forall (i in 0..1) subcase s[i] of p for x = i; }", (codes "s", bit ∷ [], (0, Read 0 [] 86) ∷ []) ∷ []) ∷
    -- two, in the other order of the text
    (codes "module main() { x, y : boolean; p : assert G 1; forall (j in 0..1) subcase t[j] of s for y = j; forall (i in 0..1) subcase s[i] of p for x = i; }", (codes "t", bit ∷ bit ∷ [], (0, Read 0 [] 137) ∷ (1, Read 1 [] 89) ∷ []) ∷ []) ∷
    -- of two units, the second alone is split
    (codes "module main() { x : boolean; p : assert G 1; q : assert G 1; forall (i in 0..1) subcase s[i] of q for x = i; }", (codes "p", [], []) ∷ (codes "s", bit ∷ [], (0, Read 0 [] 102) ∷ []) ∷ []) ∷ []

-- its parameters are those of the unit and then the new ones, in the order of the brackets
abbrev pub parameters : List (List ℕ × List Told)
parameters =
    -- of a claim
    (codes "scalarset P undefined; module main() { x : boolean; forall (k in P) p[k] : assert G 1; forall (k in P) forall (i in 0..1) subcase s[i] of p[k] for x = i; }", (codes "s", P ∷ bit ∷ [], (1, Read 0 [] 147) ∷ []) ∷ []) ∷
    -- of a map of two indexes
    (codes "scalarset P undefined; module main() { x : array 0..1 of array P of boolean; y : boolean; layer L : { forall (i in 0..1) forall (k in P) x[i][k] := 0; } forall (i in 0..1) subcase s[i] of x//L for y = i; }", (codes "s", bit ∷ P ∷ bit ∷ [], (2, Read 1 [] 197) ∷ []) ∷ []) ∷
    -- and not of the equations or of the variables around
    (codes "scalarset P undefined; module main() { a : P; x : boolean; p : assert G 1; forall (j in P) forall (i in 0..1) subcase s[i][j] of p for a = j, x = i; }", (codes "s", bit ∷ P ∷ [], (1, Read 0 [] 135) ∷ (0, Read 1 [] 142) ∷ []) ∷ []) ∷
    -- of a split of a split
    (codes "scalarset P undefined; module main() { a : P; x : boolean; forall (k in P) p[k] : assert G 1; forall (i in 0..1) subcase s[i] of p for x = i; forall (j in P) subcase t[j] of s for a = j; }", (codes "t", P ∷ bit ∷ P ∷ [], (1, Read 1 [] 135) ∷ (2, Read 0 [] 180) ∷ []) ∷ []) ∷ []

-- the names in the brackets of what is split are its parameters in order
abbrev pub brackets : List (List ℕ × List Told)
brackets =
    -- exchanged against the variables around
    (codes "scalarset P undefined; module main() { m : array P of array P of P; forall (i in P) forall (j in P) p[i][j] : assert G 1; forall (j in P) forall (k in P) forall (c in P) subcase s[c] of p[k][j] for m[j][k] = c; }", (codes "s", P ∷ P ∷ P ∷ [], (2, Read 0 (Var 1 200 ∷ Var 0 203 ∷ []) 198) ∷ []) ∷ []) ∷
    -- as they stand
    (codes "scalarset P undefined; module main() { m : array P of array P of P; forall (i in P) forall (j in P) p[i][j] : assert G 1; forall (j in P) forall (k in P) forall (c in P) subcase s[c] of p[j][k] for m[j][k] = c; }", (codes "s", P ∷ P ∷ P ∷ [], (2, Read 0 (Var 0 200 ∷ Var 1 203 ∷ []) 198) ∷ []) ∷ []) ∷
    -- a new parameter of a split that is split
    (codes "scalarset P undefined; module main() { w : array P of P; a : P; p : assert G 1; forall (i in P) subcase s[i] of p for a = i; forall (k in P) forall (j in P) subcase t[j] of s[k] for w[k] = j; }", (codes "t", P ∷ P ∷ [], (0, Read 1 [] 118) ∷ (1, Read 0 (Var 0 184 ∷ []) 182) ∷ []) ∷ []) ∷ []

-- a guard holds where its expression has its parameter's value, and where it has none of its parameter's type
abbrev pub guards : List (List ℕ × List Value × List Value × List (List Bool))
guards =
    -- the value
    (codes "module main() { x : boolean; p : assert G 1; forall (i in 0..1) subcase s[i] of p for x = i; }", number 1 ∷ [], number 1 ∷ [], (true ∷ []) ∷ []) ∷
    -- another value
    (codes "module main() { x : boolean; p : assert G 1; forall (i in 0..1) subcase s[i] of p for x = i; }", number 1 ∷ [], number 0 ∷ [], (false ∷ []) ∷ []) ∷
    -- a value of a scalarset, and another
    (codes "scalarset P undefined; module main() { a, b : P; p : assert G 1; forall (i in P) forall (j in P) subcase s[i][j] of p for a = i, b = j; }", value 2 ∷ value 2 ∷ [], value 2 ∷ value 1 ∷ [], (true ∷ false ∷ []) ∷ []) ∷
    -- a value outside the type: at each value of the parameter
    (codes "module main() { x : 0..7; p : assert G 1; forall (i in 2..3) subcase s[i] of p for x = i; }", number 5 ∷ [], number 2 ∷ [], (true ∷ []) ∷ []) ∷
    (codes "module main() { x : 0..7; p : assert G 1; forall (i in 2..3) subcase s[i] of p for x = i; }", number 5 ∷ [], number 3 ∷ [], (true ∷ []) ∷ []) ∷
    -- inside the type
    (codes "module main() { x : 0..7; p : assert G 1; forall (i in 2..3) subcase s[i] of p for x = i; }", number 3 ∷ [], number 2 ∷ [], (false ∷ []) ∷ []) ∷
    -- no outcome, below 0
    (codes "module main() { x : 0..7; p : assert G 1; forall (i in 0..1) subcase s[i] of p for x - 3 = i; }", number 2 ∷ [], number 1 ∷ [], (true ∷ []) ∷ []) ∷
    -- an outcome
    (codes "module main() { x : 0..7; p : assert G 1; forall (i in 0..1) subcase s[i] of p for x - 3 = i; }", number 3 ∷ [], number 1 ∷ [], (false ∷ []) ∷ []) ∷
    -- a parameter of what is split
    (codes "scalarset P undefined; module main() { forall (k in P) p[k] : assert G 1; forall (k in P) forall (i in P) subcase s[i] of p[k] for k = i; }", [], value 1 ∷ value 1 ∷ [], (true ∷ []) ∷ []) ∷
    (codes "scalarset P undefined; module main() { forall (k in P) p[k] : assert G 1; forall (k in P) forall (i in P) subcase s[i] of p[k] for k = i; }", [], value 1 ∷ value 0 ∷ [], (false ∷ []) ∷ []) ∷ []
