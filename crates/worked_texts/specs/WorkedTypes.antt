-- Worked texts, each with the abstract form of each set type in each case of each leaf, or with its leaves of too many parameters or cases. Each was worked out
-- by hand.
use Rattle.std.specs.Prelude.{ℕ, List, [], ◌∷◌, codes}
use Rattle.smv_core.specs.declared.abstract_type.AbsType.{AbsType}
use Rattle.worked_texts.specs.Worked.{Answer, fault, valid}
use Rattle.worked_texts.specs.CasesWorked.{classes, and_rest, and_gaps}

-- what a set type is in a case
abbrev pub types : List (List ℕ × List (List (List AbsType)))
types =
    -- a scalarset of a declared size has its values, with a parameter over it or without
    (codes "scalarset T 0..2; module main() { forall (i in T) p[i] : assert G 1; }", ((classes 3 ∷ []) ∷ []) ∷ []) ∷
    (codes "scalarset T 0..2; module main() { p : assert G 1; }", ((classes 3 ∷ []) ∷ []) ∷ []) ∷
    -- one of no declared size has the classes of its parameters and the rest
    (codes "scalarset T undefined; module main() { forall (i in T) forall (j in T) p[i][j] : assert G 1; }", ((and_rest 1 ∷ []) ∷ (and_rest 2 ∷ []) ∷ []) ∷ []) ∷
    (codes "scalarset T undefined; module main() { p : assert G 1; }", ((and_rest 0 ∷ []) ∷ []) ∷ []) ∷
    -- of a declared size and reduced: the rest where there are more values than classes
    (codes "scalarset T 0..2; module main() { forall (i in T) p[i] : assert G 1; forall (i in T) using T->{i} prove p[i]; }", ((and_rest 1 ∷ []) ∷ []) ∷ []) ∷
    (codes "scalarset T 0..0; module main() { forall (i in T) p[i] : assert G 1; forall (i in T) using T->{i} prove p[i]; }", ((classes 1 ∷ []) ∷ []) ∷ []) ∷
    (codes "scalarset T 0..2; module main() { p : assert G 1; using T->{} prove p; }", ((and_rest 0 ∷ []) ∷ []) ∷ []) ∷
    -- parameters that do not stay add no class
    (codes "scalarset T undefined; module main() { forall (i in T) forall (j in T) p[i][j] : assert G 1; forall (i in T) forall (j in T) using T->{i} prove p[i][j]; }", ((and_rest 1 ∷ []) ∷ (and_rest 1 ∷ []) ∷ []) ∷ []) ∷
    -- an ordset has its classes and the gaps around them
    (codes "ordset T undefined; module main() { forall (i in T) forall (j in T) p[i][j] : assert G 1; }", ((and_gaps 1 ∷ []) ∷ (and_gaps 2 ∷ []) ∷ (and_gaps 2 ∷ []) ∷ []) ∷ []) ∷
    (codes "ordset T undefined; module main() { p : assert G 1; }", ((and_gaps 0 ∷ []) ∷ []) ∷ []) ∷
    -- each set type by itself, and each leaf
    (codes "scalarset T undefined; ordset I undefined; module main() { forall (i in I) p[i] : assert G 1; forall (i in T) q[i] : assert G 1; }", ((and_rest 0 ∷ and_gaps 1 ∷ []) ∷ []) ∷ ((and_rest 1 ∷ and_gaps 0 ∷ []) ∷ []) ∷ []) ∷ []

-- a leaf has at most eight parameters
abbrev pub parameters : List (List ℕ × List Answer)
parameters =
    -- eight
    (codes "module main() { forall (a in 0..0) forall (b in 0..0) forall (c in 0..0) forall (d in 0..0) forall (e in 0..0) forall (f in 0..0) forall (g in 0..0) forall (h in 0..0) p[a][b][c][d][e][f][g][h] : assert G 1; }", valid ∷ []) ∷
    -- nine
    (codes "module main() { forall (a in 0..0) forall (b in 0..0) forall (c in 0..0) forall (d in 0..0) forall (e in 0..0) forall (f in 0..0) forall (g in 0..0) forall (h in 0..0) forall (i in 0..0) p[a][b][c][d][e][f][g][h][i] : assert G 1; }", fault 29 187 ∷ []) ∷
    -- eight and nine of a map and its split: at the first assignment in the layer
    (codes "module main() { x : array 0..0 of array 0..0 of array 0..0 of array 0..0 of boolean; layer L : { forall (a in 0..0) forall (b in 0..0) forall (c in 0..0) forall (d in 0..0) init(x[a][b][c][d]) := 0; forall (a in 0..0) forall (b in 0..0) forall (c in 0..0) forall (d in 0..0) next(x[a][b][c][d]) := 0; } forall (e in 0..0) forall (f in 0..0) forall (g in 0..0) forall (h in 0..0) subcase s[e][f][g][h] of x//L for 0 = e, 0 = f, 0 = g, 0 = h; }", valid ∷ []) ∷
    (codes "module main() { x : array 0..0 of array 0..0 of array 0..0 of array 0..0 of boolean; layer L : { forall (a in 0..0) forall (b in 0..0) forall (c in 0..0) forall (d in 0..0) init(x[a][b][c][d]) := 0; forall (a in 0..0) forall (b in 0..0) forall (c in 0..0) forall (d in 0..0) next(x[a][b][c][d]) := 0; } forall (e in 0..0) forall (f in 0..0) forall (g in 0..0) forall (h in 0..0) forall (i in 0..0) subcase s[e][f][g][h][i] of x//L for 0 = e, 0 = f, 0 = g, 0 = h, 0 = i; }", fault 29 173 ∷ []) ∷
    -- of each leaf by itself
    (codes "module main() { q : assert G 1; forall (a in 0..0) forall (b in 0..0) forall (c in 0..0) forall (d in 0..0) forall (e in 0..0) forall (f in 0..0) forall (g in 0..0) forall (h in 0..0) forall (i in 0..0) p[a][b][c][d][e][f][g][h][i] : assert G 1; r : assert G 1; }", valid ∷ fault 29 203 ∷ valid ∷ []) ∷ []

-- and at most 4,096 cases
abbrev pub numbers : List (List ℕ × List Answer)
numbers =
    -- 4,096
    (codes "module main() { forall (a in 0..15) forall (b in 0..255) p[a][b] : assert G 1; }", valid ∷ []) ∷
    -- 4,097
    (codes "module main() { forall (a in 0..16) forall (b in 0..240) p[a][b] : assert G 1; }", fault 29 57 ∷ []) ∷
    -- of a map and its split
    (codes "module main() { x : array 0..15 of 0..255; y : 0..255; layer L : { forall (i in 0..15) x[i] := 0; } forall (j in 0..255) subcase s[j] of x//L for y = j; }", valid ∷ []) ∷
    (codes "module main() { x : array 0..16 of 0..255; y : 0..255; layer L : { forall (i in 0..16) x[i] := 0; } forall (j in 0..240) subcase s[j] of x//L for y = j; }", fault 29 87 ∷ []) ∷ []
