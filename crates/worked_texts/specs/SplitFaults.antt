-- Worked texts by theme, each with its first fault of splits. Each answer was worked out by hand from the rules, the places too.
use Rattle.std.specs.Prelude.{ℕ, List, [], ◌∷◌, codes}
use Rattle.worked_texts.specs.Worked.{Answer, fault, valid}
use Rattle.worked_texts.specs.Tomasulo.{machine}

-- one text for each fault, those of the language's definition
abbrev pub rows : List (List ℕ × Answer)
rows =
    -- a split of nothing
    (codes "module main() { x : boolean; forall (i in 0..1) subcase s[i] of q for x = i; }", fault 23 64) ∷
    -- an enumeration for a number
    (codes "module main() { x : {red}; p : assert G 1; forall (i in 0..1) subcase s[i] of p for x = i; }", fault 24 88) ∷ []

-- a split is of a unit, that is a claim or a map other than a base definition, or of a split
abbrev pub of : List (List ℕ × Answer)
of =
    -- of a claim
    (codes "module main() { x : boolean; p : assert G 1; forall (i in 0..1) subcase s[i] of p for x = i; }", valid) ∷
    -- of a map
    (codes "module main() { x : boolean; layer L : { x := 0; } forall (i in 0..1) subcase s[i] of x//L for x = i; }", valid) ∷
    -- of a split
    (codes "module main() { x : boolean; p : assert G 1; forall (i in 0..1) subcase s[i] of p for x = i; forall (j in 0..1) subcase t[j] of s for x = j; }", valid) ∷
    -- of a split that stands later
    (codes "module main() { x : boolean; p : assert G 1; forall (j in 0..1) subcase t[j] of s for x = j; forall (i in 0..1) subcase s[i] of p for x = i; }", valid) ∷
    -- a family alone
    (codes "module main() { x : boolean; layer L : { x := 0; } forall (i in 0..1) subcase s[i] of x for x = i; }", fault 23 86) ∷
    -- a claim in a layer
    (codes "module main() { x : boolean; layer L : { x := 0; } p : assert G 1; forall (i in 0..1) subcase s[i] of p//L for x = i; }", fault 23 102) ∷
    -- a layer that does not define the family
    (codes "module main() { x, y : boolean; layer L : { x := 0; } forall (i in 0..1) subcase s[i] of y//L for x = i; }", fault 23 89) ∷
    -- a layer that is not there
    (codes "module main() { x : boolean; layer L : { x := 0; } forall (i in 0..1) subcase s[i] of x//K for x = i; }", fault 23 86) ∷
    -- a definition outside layers
    (codes "module main() { x : boolean; x := 0; layer L : { } forall (i in 0..1) subcase s[i] of x//L for x = i; }", fault 23 86) ∷
    -- the base definition of an abstract signal
    (codes "module main() { abstract y : boolean; x : boolean; layer L : { y := 0; } forall (i in 0..1) subcase s[i] of y//L for x = i; }", fault 23 108) ∷
    -- and its second definition
    (codes "module main() { abstract y : boolean; x : boolean; layer L : { y := 0; } layer K : { y := 0; } forall (i in 0..1) subcase s[i] of y//K for x = i; }", valid) ∷ []

-- what is split has no other split: the later one is at fault
abbrev pub again : List (List ℕ × Answer)
again =
    -- a claim
    (codes "module main() { x : boolean; p : assert G 1; forall (i in 0..1) subcase s[i] of p for x = i; forall (i in 0..1) subcase t[i] of p for x = i; }", fault 23 128) ∷
    -- a map
    (codes "module main() { x : boolean; layer L : { x := 0; } forall (i in 0..1) subcase s[i] of x//L for x = i; forall (i in 0..1) subcase t[i] of x//L for x = i; }", fault 23 137) ∷
    -- a split
    (codes "module main() { x : boolean; p : assert G 1; forall (i in 0..1) subcase s[i] of p for x = i; forall (i in 0..1) subcase t[i] of s for x = i; forall (i in 0..1) subcase u[i] of s for x = i; }", fault 23 176) ∷
    -- with other brackets
    (codes "scalarset P undefined; module main() { a : P; forall (i in P) p[i] : assert G 1; forall (i in P) forall (j in P) subcase s[j] of p[i] for a = j; forall (j in P) subcase t[j] of p for a = j; }", fault 23 177) ∷
    -- two maps of one family
    (codes "module main() { x : boolean; layer L : { x := 0; } layer K : { x := 0; } forall (i in 0..1) subcase s[i] of x//L for x = i; forall (i in 0..1) subcase t[i] of x//K for x = i; }", valid) ∷
    -- the later of two is the one that is met later
    (codes "module m() { x : boolean; p : assert G 1; forall (i in 0..1) subcase s[i] of p for x = i; } module main() { x : boolean; forall (i in 0..1) subcase t[i] of n.p for x = i; n : m(); }", fault 23 77) ∷
    -- and not the one that stands later
    (codes "module m() { x : boolean; p : assert G 1; forall (i in 0..1) subcase s[i] of p for x = i; } module main() { x : boolean; n : m(); forall (i in 0..1) subcase t[i] of n.p for x = i; }", fault 23 165) ∷ []

-- from split to split a reference leads to a unit
abbrev pub astray : List (List ℕ × Answer)
astray =
    -- a split of itself
    (codes "module main() { x : boolean; p : assert G 1; forall (i in 0..1) subcase s[i] of s for x = i; }", fault 23 80) ∷
    -- two splits of each other
    (codes "module main() { x : boolean; p : assert G 1; forall (i in 0..1) subcase s[i] of t for x = i; forall (i in 0..1) subcase t[i] of s for x = i; }", fault 23 80) ∷
    -- a split of a split of nothing
    (codes "module main() { x : boolean; p : assert G 1; forall (i in 0..1) subcase t[i] of s for x = i; forall (i in 0..1) subcase s[i] of q for x = i; }", fault 23 80) ∷
    -- three splits in a row
    (codes "module main() { x : boolean; p : assert G 1; forall (i in 0..1) subcase u[i] of t for x = i; forall (i in 0..1) subcase t[i] of s for x = i; forall (i in 0..1) subcase s[i] of p for x = i; }", valid) ∷ []

-- the brackets of what is split have as many names as it has parameters, or are left out
abbrev pub counts : List (List ℕ × Answer)
counts =
    -- one
    (codes "scalarset P undefined; module main() { a : P; forall (i in P) p[i] : assert G 1; forall (i in P) forall (j in P) subcase s[j] of p[i] for a = j; }", valid) ∷
    -- left out
    (codes "scalarset P undefined; module main() { a : P; forall (i in P) p[i] : assert G 1; forall (j in P) subcase s[j] of p for a = j; }", valid) ∷
    -- both left out
    (codes "scalarset P undefined; module main() { a : P; forall (i in P) forall (k in P) p[i][k] : assert G 1; forall (j in P) subcase s[j] of p for a = j; }", valid) ∷
    -- too few: the first
    (codes "scalarset P undefined; module main() { a : P; forall (i in P) forall (k in P) p[i][k] : assert G 1; forall (i in P) forall (j in P) subcase s[j] of p[i] for a = j; }", fault 24 150) ∷
    -- too many: the first
    (codes "scalarset P undefined; module main() { a : P; forall (i in P) p[i] : assert G 1; forall (i in P) forall (k in P) forall (j in P) subcase s[j] of p[i][k] for a = j; }", fault 24 147) ∷
    -- where there are no parameters
    (codes "scalarset P undefined; module main() { a : P; p : assert G 1; forall (i in P) forall (j in P) subcase s[j] of p[i] for a = j; }", fault 24 112) ∷
    -- of a map
    (codes "scalarset P undefined; module main() { a : P; x : array P of boolean; layer L : { forall (i in P) x[i] := 0; } forall (i in P) forall (j in P) subcase s[j] of x[i]//L for a = j; }", valid) ∷
    -- too many of a map
    (codes "scalarset P undefined; module main() { a : P; x : array P of boolean; layer L : { forall (i in P) x[i] := 0; } forall (i in P) forall (k in P) forall (j in P) subcase s[j] of x[i][k]//L for a = j; }", fault 24 177) ∷
    -- of a split: the unit's and then its new ones
    (codes "scalarset P undefined; module main() { a : P; x : boolean; forall (i in P) p[i] : assert G 1; forall (i in P) forall (k in 0..1) subcase s[k] of p[i] for x = k; forall (i in P) forall (k in 0..1) forall (j in P) subcase t[j] of s[i][k] for a = j; }", valid) ∷
    -- too few of a split
    (codes "scalarset P undefined; module main() { a : P; x : boolean; forall (i in P) p[i] : assert G 1; forall (i in P) forall (k in 0..1) subcase s[k] of p[i] for x = k; forall (i in P) forall (j in P) subcase t[j] of s[i] for a = j; }", fault 24 211) ∷ []

-- each name in brackets is bound by a `forall` around the split
abbrev pub unbound : List (List ℕ × Answer)
unbound =
    -- a new parameter
    (codes "module main() { x : boolean; p : assert G 1; forall (i in 0..1) subcase s[j] of p for x = j; }", fault 24 74) ∷
    -- the second new parameter
    (codes "module main() { x, y : boolean; p : assert G 1; forall (i in 0..1) subcase s[i][j] of p for x = i, y = j; }", fault 24 80) ∷
    -- a name of what is split
    (codes "scalarset P undefined; module main() { a : P; forall (i in P) p[i] : assert G 1; forall (j in P) subcase s[j] of p[i] for a = j; }", fault 24 115) ∷
    -- the second name of what is split
    (codes "scalarset P undefined; module main() { a : P; forall (i in P) forall (k in P) p[i][k] : assert G 1; forall (i in P) forall (j in P) subcase s[j] of p[i][k] for a = j; }", fault 24 153) ∷
    -- bound by any of those around it
    (codes "scalarset P undefined; module main() { a : P; forall (i in P) forall (k in P) p[i][k] : assert G 1; forall (j in P) forall (k in P) { forall (i in P) subcase s[j] of p[i][k] for a = j; } }", valid) ∷ []

-- each name stands once: the later one is at fault, the new parameters before the names of what is split
abbrev pub doubled : List (List ℕ × Answer)
doubled =
    -- two new parameters
    (codes "module main() { x : boolean; p : assert G 1; forall (i in 0..1) subcase s[i][i] of p for x = i; }", fault 24 77) ∷
    -- a new parameter that is one of what is split
    (codes "scalarset P undefined; module main() { a : P; forall (i in P) p[i] : assert G 1; forall (i in P) subcase s[i] of p[i] for a = i; }", fault 24 115) ∷
    -- two names of what is split
    (codes "scalarset P undefined; module main() { a : P; forall (i in P) forall (k in P) p[i][k] : assert G 1; forall (i in P) forall (j in P) subcase s[j] of p[i][i] for a = j; }", fault 24 153) ∷ []

-- each name of what is split has the type of its parameter
abbrev pub types : List (List ℕ × Answer)
types =
    -- a number for a value
    (codes "scalarset P undefined; module main() { a : P; forall (i in P) p[i] : assert G 1; forall (i in 0..1) forall (j in P) subcase s[j] of p[i] for a = j; }", fault 24 134) ∷
    -- another range
    (codes "module main() { x : boolean; forall (i in 0..1) p[i] : assert G 1; forall (i in 0..2) forall (j in 0..1) subcase s[j] of p[i] for x = j; }", fault 24 123) ∷
    -- one range, written otherwise
    (codes "module main() { x : boolean; forall (i in 0..1) p[i] : assert G 1; forall (i in boolean) forall (j in 0..1) subcase s[j] of p[i] for x = j; }", valid) ∷
    -- another set type
    (codes "scalarset P undefined; ordset I undefined; module main() { a : P; forall (i in P) p[i] : assert G 1; forall (i in I) forall (j in P) subcase s[j] of p[i] for a = j; }", fault 24 151) ∷
    -- a typedef of the set type
    (codes "scalarset P undefined; typedef Q P; module main() { a : P; forall (i in P) p[i] : assert G 1; forall (i in Q) forall (j in P) subcase s[j] of p[i] for a = j; }", valid) ∷
    -- exchanged
    (codes "scalarset P undefined; module main() { a : P; forall (i in P) forall (k in 0..1) p[i][k] : assert G 1; forall (i in P) forall (k in 0..1) forall (j in P) subcase s[j] of p[k][i] for a = j; }", fault 24 172) ∷
    -- the second
    (codes "scalarset P undefined; module main() { a : P; forall (i in P) forall (k in 0..1) p[i][k] : assert G 1; forall (i in P) forall (k in P) forall (j in P) subcase s[j] of p[i][k] for a = j; }", fault 24 172) ∷
    -- of a map
    (codes "scalarset P undefined; module main() { a : P; x : array P of boolean; layer L : { forall (i in P) x[i] := 0; } forall (i in 0..1) forall (j in P) subcase s[j] of x[i]//L for a = j; }", fault 24 164) ∷ []

-- each new parameter stands on the right of exactly one equation, and no other name does
abbrev pub equations : List (List ℕ × Answer)
equations =
    -- each in one, in another order
    (codes "module main() { x, y : boolean; p : assert G 1; forall (i in 0..1) forall (j in 0..1) subcase s[i][j] of p for x = j, y = i; }", valid) ∷
    -- in none
    (codes "module main() { x : boolean; p : assert G 1; forall (i in 0..1) forall (j in 0..1) subcase s[i][j] of p for x = i; }", fault 24 96) ∷
    -- the first in none
    (codes "module main() { x : boolean; p : assert G 1; forall (i in 0..1) forall (j in 0..1) subcase s[i][j] of p for x = j; }", fault 24 93) ∷
    -- in two
    (codes "module main() { x, y : boolean; p : assert G 1; forall (i in 0..1) subcase s[i] of p for x = i, y = i; }", fault 24 77) ∷
    -- one of two in two
    (codes "module main() { x, y : boolean; p : assert G 1; forall (i in 0..1) forall (j in 0..1) subcase s[i][j] of p for x = j, y = i, x = j; }", fault 24 99) ∷
    -- a name of what is split
    (codes "scalarset P undefined; module main() { a : P; forall (i in P) p[i] : assert G 1; forall (i in P) forall (j in P) subcase s[j] of p[i] for a = j, a = i; }", fault 24 149) ∷
    -- a name that is bound alone
    (codes "module main() { x, y : boolean; p : assert G 1; forall (i in 0..1) forall (k in 0..1) subcase s[i] of p for x = i, y = k; }", fault 24 119) ∷
    -- a name of nothing
    (codes "module main() { x, y : boolean; p : assert G 1; forall (i in 0..1) subcase s[i] of p for x = k, y = i; }", fault 24 93) ∷ []

-- an expression is of the kind of its parameter
abbrev pub kinds : List (List ℕ × Answer)
kinds =
    -- a number for a value
    (codes "scalarset P undefined; module main() { x : boolean; p : assert G 1; forall (i in P) subcase s[i] of p for x = i; }", fault 24 110) ∷
    -- a written number for a value
    (codes "scalarset P undefined; module main() { p : assert G 1; forall (i in P) subcase s[i] of p for 1 = i; }", fault 24 97) ∷
    -- a comparison for a value
    (codes "scalarset P undefined; module main() { a : P; p : assert G 1; forall (i in P) subcase s[i] of p for (a = a) = i; }", fault 24 110) ∷
    -- a value for a number
    (codes "scalarset P undefined; module main() { a : P; p : assert G 1; forall (i in 0..1) subcase s[i] of p for a = i; }", fault 24 107) ∷
    -- a value of another set type
    (codes "scalarset P undefined; scalarset Q undefined; module main() { a : P; p : assert G 1; forall (i in Q) subcase s[i] of p for a = i; }", fault 24 127) ∷
    -- a value
    (codes "scalarset P undefined; module main() { a : P; p : assert G 1; forall (i in P) subcase s[i] of p for a = i; }", valid) ∷
    -- numbers of another range
    (codes "module main() { x : 0..7; p : assert G 1; forall (i in 2..3) subcase s[i] of p for x = i; }", valid) ∷
    -- a sum
    (codes "module main() { x : 0..7; p : assert G 1; forall (i in 0..8) subcase s[i] of p for x + 1 = i; }", valid) ∷
    -- a comparison for a number
    (codes "scalarset P undefined; module main() { a : P; p : assert G 1; forall (i in 0..1) subcase s[i] of p for (a = a) = i; }", valid) ∷
    -- the branches of `?:`
    (codes "scalarset P undefined; module main() { a, b : P; x : boolean; p : assert G 1; forall (i in P) subcase s[i] of p for (x ? a : b) = i; }", valid) ∷
    -- branches of another kind
    (codes "scalarset P undefined; module main() { a, b : P; x : boolean; p : assert G 1; forall (i in 0..1) subcase s[i] of p for (x ? a : b) = i; }", fault 24 133) ∷
    -- a parameter of what is split
    (codes "scalarset P undefined; module main() { forall (k in P) p[k] : assert G 1; forall (k in P) forall (i in P) subcase s[i] of p[k] for k = i; }", valid) ∷
    -- one of another kind
    (codes "scalarset P undefined; module main() { forall (k in P) p[k] : assert G 1; forall (k in P) forall (i in 0..1) subcase s[i] of p[k] for k = i; }", fault 24 138) ∷
    -- the second equation
    (codes "scalarset P undefined; module main() { a : P; x : boolean; p : assert G 1; forall (i in P) forall (j in P) subcase s[i][j] of p for a = i, x = j; }", fault 24 143) ∷ []

-- an expression reads, of the variables around the split, those alone that stand in the brackets of what is split
abbrev pub strays : List (List ℕ × Answer)
strays =
    -- one of them
    (codes "scalarset P undefined; module main() { w : array P of P; forall (k in P) p[k] : assert G 1; forall (k in P) forall (i in P) subcase s[i] of p[k] for w[k] = i; }", valid) ∷
    -- where the brackets are left out
    (codes "scalarset P undefined; module main() { w : array P of P; forall (k in P) p[k] : assert G 1; forall (k in P) forall (i in P) subcase s[i] of p for w[k] = i; }", fault 24 148) ∷
    -- a new parameter
    (codes "scalarset P undefined; module main() { w : array P of P; p : assert G 1; forall (i in P) subcase s[i] of p for w[i] = i; }", fault 24 113) ∷
    -- a variable of its own
    (codes "scalarset P undefined; module main() { w : array P of P; p : assert G 1; forall (i in 0..1) subcase s[i] of p for |[w[j] = j : j in P] = i; }", valid) ∷ []

-- a split stands in its instance
abbrev pub instances : List (List ℕ × Answer)
instances =
    -- each instance has its own
    (codes "module m() { x : boolean; p : assert G 1; forall (i in 0..1) subcase s[i] of p for x = i; } module main() { n, o : m(); }", valid) ∷
    -- main sees its instances
    (codes "module m() { p : assert G 1; } module main() { x : boolean; n : m(); forall (i in 0..1) subcase s[i] of n.p for x = i; }", valid) ∷
    -- by their whole names
    (codes "module m() { p : assert G 1; } module main() { x : boolean; n : m(); forall (i in 0..1) subcase s[i] of p for x = i; }", fault 23 104) ∷
    -- what stands around is not seen
    (codes "module m() { x : boolean; forall (i in 0..1) subcase s[i] of p for x = i; } module main() { n : m(); p : assert G 1; }", fault 23 61) ∷ []

-- the least place counts
abbrev pub first : List (List ℕ × Answer)
first =
    -- 24 before 23
    (codes "module main() { x : boolean; forall (i in 0..1) subcase s[j] of q for x = j; }", fault 24 58) ∷
    -- 23 before 24
    (codes "module main() { x : boolean; forall (i in 0..1) subcase s[i] of q for x = i, x = k; }", fault 23 64) ∷
    -- an earlier split
    (codes "module main() { x : boolean; p : assert G 1; forall (i in 0..1) subcase s[i] of p for x = k, x = i; forall (i in 0..1) subcase t[i] of q for x = i; }", fault 24 90) ∷ []

-- the reduced Tomasulo machine
abbrev pub tomasulo : List (List ℕ × Answer)
tomasulo = (machine, valid) ∷ []
