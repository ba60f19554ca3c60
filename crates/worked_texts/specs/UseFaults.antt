-- Worked texts by theme, each with the first fault of uses. Each answer was worked out by hand from the rules, the places too.
use Rattle.std.specs.Prelude.{ℕ, List, [], ◌∷◌, codes}
use Rattle.worked_texts.specs.Worked.{Answer, fault, valid}
use Rattle.worked_texts.specs.Tomasulo.{machine}

-- one text for each fault, those of the language's definition
abbrev pub rows : List (List ℕ × Answer)
rows =
    -- a use of nothing
    (codes "module main() { p : assert G 1; using q prove p; }", fault 26 38) ∷
    -- two `using` for one leaf
    (codes "module main() { p : assert G 1; using p prove p; using p prove p; }", fault 27 63) ∷
    -- a name in braces that is no parameter
    (codes "scalarset P undefined; module main() { p : assert G 1; using P->{i} prove p; }", fault 28 65) ∷ []

-- what stands before `prove`: `y//L` where the layer L defines the family y, `y//free`, or a claim
abbrev pub uses : List (List ℕ × Answer)
uses =
    -- a layer that does not define the family
    (codes "module main() { x : boolean; layer L : { x := 0; } y : boolean; using y//L prove x//L; }", fault 26 70) ∷
    -- a layer that defines it
    (codes "module main() { x, y : boolean; layer L : { x := 0; y := 0; } using y//L prove x//L; }", valid) ∷
    -- in which only `next` is given
    (codes "module main() { x, y : boolean; layer L : { x := 0; next(y) := 0; } using y//L prove x//L; }", valid) ∷
    -- the layer that gives an abstract signal its base definition
    (codes "module main() { abstract s : boolean; x : boolean; layer L : { s := 0; x := s; } using s//L prove x//L; }", valid) ∷
    -- a definition outside layers has no layer
    (codes "module main() { x, y : boolean; y := 0; layer L : { x := 0; } using y//L prove x//L; }", fault 26 68) ∷
    -- no such layer
    (codes "module main() { x : boolean; layer L : { x := 0; } using x//K prove x//L; }", fault 26 57) ∷
    -- no such family
    (codes "module main() { x : boolean; layer L : { x := 0; } using y//L prove x//L; }", fault 26 57) ∷
    -- a family alone
    (codes "module main() { x : boolean; layer L : { x := 0; } using x prove x//L; }", fault 26 57) ∷
    -- a free family
    (codes "module main() { x : boolean; layer L : { x := 0; } y : boolean; using y//free prove x//L; }", valid) ∷
    -- also that of the leaf
    (codes "module main() { x : boolean; layer L : { x := 0; } using x//free prove x//L; }", valid) ∷
    -- a claim is not free
    (codes "module main() { p : assert G 1; using p//free prove p; }", fault 26 38) ∷
    -- nor in a layer
    (codes "module main() { x : boolean; layer L : { x := 0; } p : assert G 1; using p//L prove p; }", fault 26 73) ∷
    -- no family to be free
    (codes "module main() { p : assert G 1; using y//free prove p; }", fault 26 38) ∷
    -- a family of a struct
    (codes "module main() { x : struct { v : boolean; }; layer L : { x.v := 0; } using x.v//L prove x.v//L; }", valid) ∷
    -- but not the struct
    (codes "module main() { x : struct { v : boolean; }; layer L : { x.v := 0; } using x//L prove x.v//L; }", fault 26 75) ∷
    -- a split is no claim
    (codes "module main() { x : boolean; p : assert G 1; forall (i in 0..1) subcase s[i] of p for x = i; using s prove s; }", fault 26 99) ∷
    -- a claim that is split
    (codes "module main() { x : boolean; p : assert G 1; forall (i in 0..1) subcase s[i] of p for x = i; using p prove s; }", valid) ∷
    -- in parentheses, the reference is at fault
    (codes "module main() { p : assert G 1; using (q) prove p; }", fault 26 39) ∷
    -- names in brackets say nothing here
    (codes "module main() { forall (i in 0..1) p[i] : assert G 1; using p[a][b][c] prove p; }", valid) ∷
    -- nor before a layer
    (codes "module main() { x : array 0..1 of boolean; layer L : { forall (i in 0..1) x[i] := 0; } using x[j]//L prove x//L; }", valid) ∷ []

-- what stands behind `prove` names leaves
abbrev pub proved : List (List ℕ × Answer)
proved =
    -- no such name
    (codes "module main() { p : assert G 1; using p prove q; }", fault 26 46) ∷
    -- a family
    (codes "module main() { x : boolean; layer L : { x := 0; } using x//free prove x; }", fault 26 71) ∷
    -- in a layer that does not define it
    (codes "module main() { x, y : boolean; layer L : { x := 0; } layer K : { y := 0; } using x//L prove x//K; }", fault 26 93) ∷
    -- a claim that is split is no leaf
    (codes "module main() { x : boolean; p : assert G 1; forall (i in 0..1) subcase s[i] of p for x = i; using p prove p; }", fault 26 107) ∷
    -- a map that is split
    (codes "module main() { x : boolean; layer L : { x := 0; } forall (i in 0..1) subcase s[i] of x//L for x = i; using x//L prove x//L; }", fault 26 119) ∷
    -- a split that is split
    (codes "module main() { x : boolean; p : assert G 1; forall (i in 0..1) subcase s[i] of p for x = i; forall (j in 0..1) subcase t[j] of s for x = j; using p prove s; }", fault 26 155) ∷
    -- the end of the splits
    (codes "module main() { x : boolean; p : assert G 1; forall (i in 0..1) subcase s[i] of p for x = i; forall (j in 0..1) subcase t[j] of s for x = j; using p prove t; }", valid) ∷
    -- the base definition of an abstract signal is no unit
    (codes "module main() { abstract s : boolean; layer L : { s := 0; } p : assert G 1; using p prove s//L; }", fault 26 90) ∷
    -- its second definition is one
    (codes "module main() { abstract s : boolean; layer L : { s := 0; } layer K : { s := 0; } using s//L prove s//K; }", valid) ∷
    -- a claim has no layer
    (codes "module main() { x : boolean; layer L : { x := 0; } p : assert G 1; using p prove p//L; }", fault 26 81) ∷
    -- the second of two
    (codes "module main() { p : assert G 1; using p prove p, q; }", fault 26 49) ∷
    -- both sides: the first place
    (codes "module main() { p : assert G 1; using a, b prove q; }", fault 26 38) ∷
    -- where nothing is proved, braces are not compared
    (codes "scalarset P undefined; module main() { p : assert G 1; using P->{i} prove q; }", fault 26 74) ∷
    -- nor are brackets
    (codes "module main() { p : assert G 1; using p prove q[i][i]; }", fault 26 46) ∷
    -- nor are two choices of one family
    (codes "module main() { x : boolean; p : assert G 1; using x//free, x//free prove q; }", fault 26 74) ∷ []

-- a `using` stands in its instance
abbrev pub instances : List (List ℕ × Answer)
instances =
    -- by the names of the module
    (codes "module m() { x : boolean; layer L : { x := 0; } using x//L prove x//L; } module main() { n : m(); }", valid) ∷
    -- what stands around is not seen
    (codes "module m() { p : assert G 1; using q prove p; } module main() { n : m(); q : assert G 1; }", fault 26 35) ∷
    -- main sees its instances
    (codes "module m() { p : assert G 1; } module main() { n : m(); q : assert G 1; using n.p prove q; using q prove n.p; }", valid) ∷
    -- by their whole names
    (codes "module m() { p : assert G 1; } module main() { n : m(); q : assert G 1; using p prove q; }", fault 26 78) ∷
    -- two instances have leaves of their own
    (codes "module m() { p : assert G 1; using p prove p; } module main() { n, o : m(); }", valid) ∷
    -- layers are of the whole text
    (codes "module m() { x : boolean; layer L : { x := 0; } } module main() { n : m(); y : boolean; layer L : { y := 0; } using n.x//L prove y//L; }", valid) ∷
    -- set types too
    (codes "scalarset P undefined; module m() { forall (i in P) p[i] : assert G 1; forall (i in P) using P->{i} prove p[i]; } module main() { n : m(); }", valid) ∷
    -- the later of two is the one that is met later
    (codes "module m() { p : assert G 1; using p prove p; } module main() { using n.p prove n.p; n : m(); }", fault 27 43) ∷
    -- and not the one that stands later
    (codes "module m() { p : assert G 1; using p prove p; } module main() { n : m(); using n.p prove n.p; }", fault 27 89) ∷ []

-- one leaf or one use twice
abbrev pub twice : List (List ℕ × Answer)
twice =
    -- one leaf in one `using`
    (codes "module main() { p : assert G 1; using p prove p, p; }", fault 27 49) ∷
    -- two leaves
    (codes "module main() { p, q : boolean; c : assert G 1; e : assert G 1; using c prove c, e; }", valid) ∷
    -- a leaf that has splits
    (codes "module main() { x : boolean; p : assert G 1; forall (i in 0..1) subcase s[i] of p for x = i; using p prove s; using x//free prove s; }", fault 27 130) ∷
    -- with other brackets
    (codes "module main() { forall (i in 0..1) p[i] : assert G 1; using p prove p; forall (j in 0..1) using p prove p[j]; }", fault 27 104) ∷
    -- one map
    (codes "module main() { x : boolean; layer L : { x := 0; } p : assert G 1; using x//L, x//L prove p; }", fault 27 79) ∷
    -- one map, once in parentheses
    (codes "module main() { x : boolean; layer L : { x := 0; } p : assert G 1; using (x//L), x//free, (x//L) prove x//L; }", fault 27 91) ∷
    -- the leaf's own
    (codes "module main() { x : boolean; layer L : { x := 0; } using x//L, x//L prove x//L; }", fault 27 63) ∷
    -- where nothing is proved
    (codes "module main() { x : boolean; layer L : { x := 0; } using x//L, x//L prove q; }", fault 27 63) ∷
    -- one claim
    (codes "module main() { c : assert G 1; using c, c prove c; }", fault 27 41) ∷
    -- one claim, once in parentheses
    (codes "module main() { c : assert G 1; e : assert G 1; using c, e, (c) prove e; }", fault 27 61) ∷
    -- two claims
    (codes "module main() { c : assert G 1; e : assert G 1; using c, (e) prove c; }", valid) ∷
    -- in two `using`
    (codes "module main() { x : boolean; layer L : { x := 0; } p : assert G 1; q : assert G 1; using x//L, q prove p; using x//L, q prove q; }", valid) ∷ []

-- two choices of one family
abbrev pub choices : List (List ℕ × Answer)
choices =
    -- in two layers
    (codes "module main() { x : boolean; layer L : { x := 0; } layer K : { x := 0; } p : assert G 1; using x//L, x//K prove p; }", fault 27 101) ∷
    -- one of them free
    (codes "module main() { x : boolean; layer L : { x := 0; } p : assert G 1; using x//L, x//free prove p; }", fault 27 79) ∷
    -- both free
    (codes "module main() { x : boolean; p : assert G 1; using x//free, x//free prove p; }", fault 27 60) ∷
    -- both free, in parentheses
    (codes "module main() { x : boolean; p : assert G 1; using (x//free), (x//free) prove p; }", fault 27 63) ∷
    -- of two families
    (codes "module main() { x, y : boolean; p : assert G 1; using x//free, y//free prove p; }", valid) ∷
    -- one of them the leaf's own map
    (codes "module main() { x : boolean; layer L : { x := 0; } layer K : { x := 0; } using x//L, x//K prove x//L; }", valid) ∷
    -- and of the other leaf
    (codes "module main() { x : boolean; layer L : { x := 0; } layer K : { x := 0; } using x//L, x//K prove x//K; }", valid) ∷
    -- own and free
    (codes "module main() { x : boolean; layer L : { x := 0; } using x//L, x//free prove x//L; }", valid) ∷
    -- own, by a split
    (codes "module main() { x : boolean; layer L : { x := 0; } layer K : { x := 0; } forall (i in 0..1) subcase s[i] of x//L for x = i; using x//L, x//K prove s; }", valid) ∷
    -- own for one leaf, not for the other
    (codes "module main() { x : boolean; layer L : { x := 0; } layer K : { x := 0; } p : assert G 1; using x//L, x//K prove x//L, p; }", fault 27 101) ∷
    -- own for each leaf
    (codes "module main() { x : boolean; layer L : { x := 0; } layer K : { x := 0; } using x//L, x//K prove x//L, x//K; }", valid) ∷
    -- two besides the own
    (codes "module main() { x : boolean; layer L : { x := 0; } layer K : { x := 0; } using x//L, x//K, x//free prove x//L; }", fault 27 91) ∷
    -- the base definition of an abstract signal is none of a leaf
    (codes "module main() { abstract s : boolean; layer L : { s := 0; } layer K : { s := 0; } layer J : { s := 0; } using s//L, s//K prove s//J; }", fault 27 116) ∷ []

-- what stays of a set type
abbrev pub braces : List (List ℕ × Answer)
braces =
    -- braces twice
    (codes "scalarset P undefined; module main() { p : assert G 1; using P->{}, P->{} prove p; }", fault 27 68) ∷
    -- also with other names
    (codes "scalarset P undefined; module main() { forall (i in P) p[i] : assert G 1; forall (i in P) using P->{i}, P->{} prove p[i]; }", fault 27 104) ∷
    -- of two set types
    (codes "scalarset P undefined; ordset I undefined; module main() { p : assert G 1; using P->{}, I->{} prove p; }", valid) ∷
    -- of no type
    (codes "module main() { p : assert G 1; using P->{} prove p; }", fault 28 38) ∷
    -- twice of no type
    (codes "module main() { p : assert G 1; using P->{}, P->{} prove p; }", fault 28 38) ∷
    -- a typedef names no set type
    (codes "scalarset P undefined; typedef Q P; module main() { p : assert G 1; using Q->{} prove p; }", fault 28 74) ∷
    -- a signal neither
    (codes "scalarset P undefined; module main() { x : P; p : assert G 1; using x->{} prove p; }", fault 28 68) ∷
    -- a set type of a declared size
    (codes "scalarset D 0..2; module main() { forall (i in D) p[i] : assert G 1; forall (i in D) using D->{i} prove p[i]; }", valid) ∷
    -- by the brackets of the reference
    (codes "scalarset P undefined; module main() { forall (i in P) p[i] : assert G 1; forall (k in P) using P->{k} prove p[k]; }", valid) ∷
    -- not by the claim's own names
    (codes "scalarset P undefined; module main() { forall (i in P) p[i] : assert G 1; forall (k in P) using P->{i} prove p[k]; }", fault 28 100) ∷
    -- without brackets no name is one
    (codes "scalarset P undefined; module main() { forall (i in P) p[i] : assert G 1; forall (i in P) using P->{i} prove p; }", fault 28 100) ∷
    -- without names none is needed
    (codes "scalarset P undefined; module main() { forall (i in P) p[i] : assert G 1; using P->{} prove p; }", valid) ∷
    -- a parameter over a range
    (codes "scalarset P undefined; module main() { forall (i in 0..1) p[i] : assert G 1; forall (i in 0..1) using P->{i} prove p[i]; }", fault 28 106) ∷
    -- over another set type
    (codes "scalarset P undefined; ordset I undefined; module main() { forall (i in P) forall (j in I) p[i][j] : assert G 1; forall (i in P) forall (j in I) using P->{i}, I->{j, i} prove p[i][j]; }", fault 28 166) ∷
    -- a name twice is no fault
    (codes "scalarset P undefined; module main() { forall (i in P) p[i] : assert G 1; forall (i in P) using P->{i, i} prove p[i]; }", valid) ∷
    -- the second name
    (codes "scalarset P undefined; module main() { forall (i in P) p[i] : assert G 1; forall (i in P) using P->{i, j} prove p[i]; }", fault 28 103) ∷
    -- of each leaf that is proved
    (codes "scalarset P undefined; module main() { forall (i in P) p[i] : assert G 1; forall (i in P) q[i] : assert G 1; forall (i in P) using P->{i} prove p[i], q; }", fault 28 135) ∷
    -- which is so
    (codes "scalarset P undefined; module main() { forall (i in P) p[i] : assert G 1; forall (i in P) q[i] : assert G 1; forall (i in P) using P->{i} prove p[i], q[i]; }", valid) ∷
    -- the new parameters of a split
    (codes "scalarset P undefined; module main() { x : P; p : assert G 1; forall (i in P) subcase s[i] of p for x = i; forall (k in P) using P->{k} prove s[k]; }", valid) ∷
    -- the parameters of a map
    (codes "scalarset P undefined; module main() { x : array P of boolean; layer L : { forall (i in P) x[i] := 0; } forall (k in P) using P->{k} prove x[k]//L; }", valid) ∷ []

-- names in the brackets of what is proved
abbrev pub brackets : List (List ℕ × Answer)
brackets =
    -- not bound
    (codes "scalarset P undefined; module main() { forall (i in P) p[i] : assert G 1; using p prove p[i]; }", fault 28 90) ∷
    -- bound
    (codes "scalarset P undefined; module main() { forall (i in P) p[i] : assert G 1; forall (j in P) using p prove p[j]; }", valid) ∷
    -- none, though there are parameters
    (codes "scalarset P undefined; module main() { forall (i in P) p[i] : assert G 1; using p prove p; }", valid) ∷
    -- of another type
    (codes "scalarset P undefined; module main() { forall (i in P) p[i] : assert G 1; forall (i in 0..1) using p prove p[i]; }", fault 28 109) ∷
    -- of another range
    (codes "module main() { forall (i in 0..1) p[i] : assert G 1; forall (i in 0..2) using p prove p[i]; }", fault 28 89) ∷
    -- of one range, written otherwise
    (codes "module main() { forall (i in 0..1) p[i] : assert G 1; forall (i in boolean) using p prove p[i]; }", valid) ∷
    -- too many: the first
    (codes "scalarset P undefined; module main() { forall (i in P) p[i] : assert G 1; forall (i in P) forall (j in P) using p prove p[i][j]; }", fault 28 122) ∷
    -- too few: the first
    (codes "scalarset P undefined; module main() { forall (i in P) forall (j in P) p[i][j] : assert G 1; forall (i in P) using p prove p[i]; }", fault 28 125) ∷
    -- where there are no parameters
    (codes "module main() { p : assert G 1; forall (i in 0..1) using p prove p[i]; }", fault 28 67) ∷
    -- twice: the later
    (codes "scalarset P undefined; module main() { forall (i in P) forall (j in P) p[i][j] : assert G 1; forall (i in P) using p prove p[i][i]; }", fault 28 128) ∷
    -- exchanged
    (codes "scalarset P undefined; module main() { forall (i in P) forall (j in 0..1) p[i][j] : assert G 1; forall (i in P) forall (j in 0..1) using p prove p[j][i]; }", fault 28 147) ∷
    -- of one type they may be
    (codes "scalarset P undefined; module main() { forall (i in P) forall (j in P) p[i][j] : assert G 1; forall (i in P) forall (j in P) using p prove p[j][i]; }", valid) ∷
    -- the second reference
    (codes "scalarset P undefined; module main() { forall (i in P) p[i] : assert G 1; forall (i in P) q[i] : assert G 1; forall (i in P) using p prove p[i], q[k]; }", fault 28 147) ∷
    -- of a split: first what it splits
    (codes "scalarset P undefined; module main() { x : 0..1; forall (i in P) p[i] : assert G 1; forall (i in P) forall (j in 0..1) subcase s[j] of p[i] for x = j; forall (i in P) forall (j in 0..1) using p prove s[j][i]; }", fault 28 202) ∷
    -- in this order
    (codes "scalarset P undefined; module main() { x : 0..1; forall (i in P) p[i] : assert G 1; forall (i in P) forall (j in 0..1) subcase s[j] of p[i] for x = j; forall (i in P) forall (j in 0..1) using p prove s[i][j]; }", valid) ∷
    -- of a map
    (codes "scalarset P undefined; module main() { x : array 0..1 of array P of boolean; layer L : { forall (i in 0..1) forall (k in P) x[i][k] := 0; } forall (i in P) forall (k in 0..1) using x//L prove x[i][k]//L; }", fault 28 194) ∷
    -- too few of a split: the first
    (codes "scalarset P undefined; module main() { x : 0..1; forall (i in P) p[i] : assert G 1; forall (j in 0..1) subcase s[j] of p for x = j; forall (j in 0..1) using p prove s[j]; }", fault 28 167) ∷
    -- a name of a map twice
    (codes "scalarset P undefined; module main() { x : array P of array P of boolean; layer L : { forall (i in P) forall (k in P) x[i][k] := 0; } forall (i in P) using x//L prove x[i][i]//L; }", fault 28 172) ∷ []

-- the least place counts, and at one place the least number
abbrev pub first : List (List ℕ × Answer)
first =
    -- 26 before 28
    (codes "scalarset P undefined; module main() { p : assert G 1; using q, P->{i} prove p; }", fault 26 61) ∷
    -- 28 before 26
    (codes "scalarset P undefined; module main() { p : assert G 1; using P->{i}, q prove p; }", fault 28 65) ∷
    -- 27 and 28 at one place
    (codes "module main() { p : assert G 1; forall (i in 0..1) using p prove p, p[i]; }", fault 27 68) ∷
    -- 27 before 26
    (codes "module main() { x : boolean; c : assert G 1; using c, c, q prove c; }", fault 27 54) ∷
    -- 26 before 27
    (codes "module main() { x : boolean; c : assert G 1; using q, c, c prove c; }", fault 26 51) ∷
    -- an earlier `using`
    (codes "module main() { c : assert G 1; using c prove q; using c, c prove c; }", fault 26 46) ∷ []

-- the reduced Tomasulo machine
abbrev pub tomasulo : List (List ℕ × Answer)
tomasulo = (machine, valid) ∷ []
