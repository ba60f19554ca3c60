-- Worked texts by theme, each with the choice of each of its leaves, in the order of units. Families are numbered by their declarations, layers as they are first
-- met, claims in flat order; each choice was worked out by hand.
use Rattle.std.specs.Prelude.{ℕ, List, [], ◌∷◌, codes}
use Rattle.smv_core.specs.declared.flat.Choice.{Choice}
use Rattle.worked_texts.specs.Tomasulo.{machine}
use Rattle.law_uses.specs.Choices.{nothing_used}
use Rattle.worked_texts.specs.UsesWorked.{in_layer, free, early, claim, early_claim, keep, picking, assuming, uses, itself, keeping, keeping_beside}

-- the rows of the language's definition
abbrev pub rows : List (List ℕ × List Choice)
rows =
    -- two maps that use each other
    (codes "module main() { a, b : boolean; init(a) := 0; init(b) := 0; next(a) := b; next(b) := a; layer spec : { a := 0; b := 0; } using b//spec prove a//spec; using a//spec prove b//spec; }", picking (in_layer 1 0 ∷ []) ∷ picking (in_layer 0 0 ∷ []) ∷ []) ∷
    -- with another `init`
    (codes "module main() { a, b : boolean; init(a) := 1; init(b) := 0; next(a) := b; next(b) := a; layer spec : { a := 0; b := 0; } using b//spec prove a//spec; using a//spec prove b//spec; }", picking (in_layer 1 0 ∷ []) ∷ picking (in_layer 0 0 ∷ []) ∷ []) ∷
    -- two claims that use each other
    (codes "module main() { x : boolean; p : assert G x; q : assert G x; using q prove p; using p prove q; }", assuming (claim 1 ∷ []) ∷ assuming (claim 0 ∷ []) ∷ []) ∷
    -- the second of the generated designs
    (codes "module main() { s0 : 0..7; init(s0) := 0; next(s0) := (s0 + 1) mod 4; p0 : assert G (s0 <= 3); s1 : 0..7; init(s1) := 0; next(s1) := s0; p1 : assert G (s1 <= 3); using s0//free, p0 prove p1; }", nothing_used ∷ uses (free 0 ∷ []) (claim 0 ∷ []) ∷ []) ∷ []

-- a choice for each leaf in the order of units, and picks and claims in the order of the text
abbrev pub order : List (List ℕ × List Choice)
order =
    -- the units are q, x//L and p; two `using` in another order
    (codes "module main() { q : assert G 1; x, y, z : boolean; layer L : { x := 0; } p : assert G 1; using z//free, y//free prove p; using p, q, x//L prove q; }", uses (in_layer 0 0 ∷ []) (claim 1 ∷ claim 0 ∷ []) ∷ nothing_used ∷ picking (free 2 ∷ free 1 ∷ []) ∷ []) ∷
    -- one `using` for two leaves, which no other names
    (codes "module main() { p : assert G 1; q : assert G 1; r : assert G 1; using r, (q) prove r, p; }", assuming (claim 2 ∷ early_claim 1 ∷ []) ∷ nothing_used ∷ assuming (claim 2 ∷ early_claim 1 ∷ []) ∷ []) ∷
    -- no unit
    (codes "module main() { x : boolean; }", []) ∷
    -- no `using`
    (codes "module main() { x : boolean; layer L : { x := 0; } p : assert G 1; }", nothing_used ∷ nothing_used ∷ []) ∷ []

-- a use in parentheses is early
abbrev pub parentheses : List (List ℕ × List Choice)
parentheses =
    -- a map and a claim
    (codes "module main() { x, y : boolean; layer L : { x := 0; y := 0; } p : assert G 1; using (y//L), p prove x//L; using y//L, (p) prove p; }", uses (early (in_layer 1 0) ∷ []) (claim 0 ∷ []) ∷ nothing_used ∷ uses (in_layer 1 0 ∷ []) (early_claim 0 ∷ []) ∷ []) ∷
    -- a free family
    (codes "module main() { x, y : boolean; p : assert G 1; using (x//free), y//free prove p; }", picking (early (free 0) ∷ free 1 ∷ []) ∷ []) ∷ []

-- a map is chosen for its whole family
abbrev pub maps : List (List ℕ × List Choice)
maps =
    -- brackets of a use say nothing
    (codes "module main() { x, y : array 0..1 of boolean; layer L : { forall (i in 0..1) x[i] := 0; forall (i in 0..1) y[i] := 0; } using y[i]//L prove x//L; }", picking (in_layer 1 0 ∷ []) ∷ nothing_used ∷ []) ∷
    -- the base definition of an abstract signal, of which the second is a unit
    (codes "module main() { abstract s : boolean; x : boolean; layer L : { s := 0; } layer K : { s := 0; x := 0; } using s//L prove x//K; using x//K, s//L prove s//K; }", picking (in_layer 1 1 ∷ in_layer 0 0 ∷ []) ∷ picking (in_layer 0 0 ∷ []) ∷ []) ∷
    -- fields of structs, in layers that are first met in another order
    (codes "module main() { x : struct { u, v : boolean; }; layer K : { x.v := 0; } layer L : { x.u := 0; } using x.u//L prove x.v//K; using x.v//K prove x.u//L; }", picking (in_layer 0 1 ∷ []) ∷ picking (in_layer 1 0 ∷ []) ∷ []) ∷ []

-- a map that uses itself
abbrev pub own : List (List ℕ × List Choice)
own =
    -- alone
    (codes "module main() { x : boolean; layer L : { x := 0; } using x//L prove x//L; }", itself nothing_used ∷ []) ∷
    -- in parentheses
    (codes "module main() { x : boolean; layer L : { x := 0; } using (x//L) prove x//L; }", itself nothing_used ∷ []) ∷
    -- beside another choice of its family
    (codes "module main() { x : boolean; layer L : { x := 0; } layer K : { x := 0; } using x//L, (x//K) prove x//L; }", itself (picking (early (in_layer 0 1) ∷ [])) ∷ nothing_used ∷ []) ∷
    -- each of two
    (codes "module main() { x : boolean; layer L : { x := 0; } layer K : { x := 0; } using x//L, x//K prove x//L, x//K; }", itself (picking (in_layer 0 1 ∷ [])) ∷ itself (picking (in_layer 0 0 ∷ [])) ∷ []) ∷
    -- by a split
    (codes "module main() { x : boolean; layer L : { x := 0; } forall (i in 0..1) subcase s[i] of x//L for x = i; using x//free, x//L prove s; }", itself (picking (free 0 ∷ [])) ∷ []) ∷
    -- a claim that uses itself is assumed
    (codes "module main() { p : assert G 1; using p prove p; }", assuming (claim 0 ∷ []) ∷ []) ∷
    -- the own map of another leaf
    (codes "module main() { x : boolean; layer L : { x := 0; } p : assert G 1; using x//L prove x//L, p; }", itself nothing_used ∷ picking (in_layer 0 0 ∷ []) ∷ []) ∷ []

-- the parameters that stay, by the names in the brackets of the leaf
abbrev pub braces : List (List ℕ × List Choice)
braces =
    -- one of two
    (codes "scalarset P undefined; module main() { forall (i in P) forall (j in P) p[i][j] : assert G 1; forall (i in P) forall (j in P) using P->{j} prove p[i][j]; }", keeping (keep 0 (1 ∷ []) ∷ []) ∷ []) ∷
    -- with other names, and exchanged
    (codes "scalarset P undefined; module main() { forall (i in P) forall (j in P) p[i][j] : assert G 1; forall (i in P) forall (j in P) using P->{j} prove p[j][i]; }", keeping (keep 0 (0 ∷ []) ∷ []) ∷ []) ∷
    -- none
    (codes "scalarset P undefined; module main() { forall (i in P) p[i] : assert G 1; using P->{} prove p; }", keeping (keep 0 [] ∷ []) ∷ []) ∷
    -- all, in the order of the parameters
    (codes "scalarset P undefined; module main() { forall (i in P) forall (j in P) p[i][j] : assert G 1; forall (i in P) forall (j in P) using P->{j, i, j} prove p[i][j]; }", keeping (keep 0 (0 ∷ 1 ∷ []) ∷ []) ∷ []) ∷
    -- of an ordset and of a declared scalarset, in the order of the text
    (codes "scalarset P undefined; ordset I undefined; scalarset D 0..2; module main() { forall (i in P) forall (j in I) forall (k in D) p[i][j][k] : assert G 1; forall (i in P) forall (j in I) forall (k in D) using D->{k}, I->{} prove p[i][j][k]; }", keeping (keep 2 (2 ∷ []) ∷ keep 1 [] ∷ []) ∷ []) ∷
    -- nothing is said: nothing is listed
    (codes "scalarset P undefined; module main() { forall (i in P) p[i] : assert G 1; using p prove p; }", assuming (claim 0 ∷ []) ∷ []) ∷
    -- of two leaves, each by its own brackets
    (codes "scalarset P undefined; module main() { forall (i in P) p[i] : assert G 1; forall (i in 0..1) forall (j in P) q[i][j] : assert G 1; forall (k in P) forall (i in 0..1) using P->{k} prove p[k], q[i][k]; }", keeping (keep 0 (0 ∷ []) ∷ []) ∷ keeping (keep 0 (1 ∷ []) ∷ []) ∷ []) ∷
    -- a new parameter of a split
    (codes "scalarset P undefined; module main() { a : P; forall (i in P) p[i] : assert G 1; forall (i in P) forall (j in P) subcase s[j] of p[i] for a = j; forall (i in P) forall (j in P) using P->{j} prove s[i][j]; }", keeping (keep 0 (1 ∷ []) ∷ []) ∷ []) ∷
    -- an index of a map
    (codes "scalarset P undefined; module main() { x : array 0..1 of array P of boolean; layer L : { forall (i in 0..1) forall (k in P) x[i][k] := 0; } forall (i in 0..1) forall (k in P) using x//L, P->{k} prove x[i][k]//L; }", keeping_beside (itself nothing_used) (keep 0 (1 ∷ []) ∷ []) ∷ []) ∷ []

-- names of instances
abbrev pub instances : List (List ℕ × List Choice)
instances =
    -- each instance has its own
    (codes "module m() { x : boolean; layer L : { x := 0; } p : assert G 1; using x//L prove p; } module main() { y : boolean; n, o : m(); layer L : { y := 0; } using o.p, n.x//L prove y//L; }", nothing_used ∷ picking (in_layer 1 0 ∷ []) ∷ nothing_used ∷ picking (in_layer 2 0 ∷ []) ∷ uses (in_layer 1 0 ∷ []) (claim 1 ∷ []) ∷ []) ∷
    -- an instance in an instance
    (codes "module m() { p : assert G 1; } module k() { n : m(); using q prove n.p; q : assert G 1; } module main() { o : k(); using o.n.p prove o.q; }", assuming (claim 1 ∷ []) ∷ assuming (claim 0 ∷ []) ∷ []) ∷ []

-- The reduced Tomasulo machine: its leaves are rd1, va1, bw1 and val1. Families: bv 8, opa 9, res 10, bw 11, ir.resvd 13, ir.val 15, st.ga 17, st.va 19, r 20; the layer lem is the second.
abbrev pub tomasulo : List (List ℕ × List Choice)
tomasulo = (machine, picking (in_layer 15 1 ∷ free 20 ∷ free 13 ∷ []) ∷ picking (in_layer 11 1 ∷ in_layer 15 1 ∷ free 10 ∷ free 8 ∷ []) ∷ picking (in_layer 19 1 ∷ free 9 ∷ free 17 ∷ []) ∷ picking (in_layer 11 1 ∷ free 10 ∷ free 8 ∷ []) ∷ []) ∷ []
