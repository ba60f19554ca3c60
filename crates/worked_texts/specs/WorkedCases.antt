-- Worked texts by theme, each with the cases of each of its leaves, in their order. Each was worked out by hand.
use Rattle.std.specs.Prelude.{ℕ, List, [], ◌∷◌, codes}
use Rattle.smv_core.specs.declared.flat.Class.{Class}
use Rattle.smv_core.specs.declared.flat.Class.TheVariants.{Named, Rest}
use Rattle.worked_texts.specs.Tomasulo.{machine}
use Rattle.worked_texts.specs.CasesWorked.{named, numbers}

-- each class of a scalarset is at most one above the greatest before it
abbrev pub scalarsets : List (List ℕ × List (List (List Class)))
scalarsets =
    -- three parameters of an undeclared type
    (codes "scalarset T undefined; module main() { forall (i in T) forall (j in T) forall (k in T) p[i][j][k] : assert G 1; }", (named (0 ∷ 0 ∷ 0 ∷ []) ∷ named (0 ∷ 0 ∷ 1 ∷ []) ∷ named (0 ∷ 1 ∷ 0 ∷ []) ∷ named (0 ∷ 1 ∷ 1 ∷ []) ∷ named (0 ∷ 1 ∷ 2 ∷ []) ∷ []) ∷ []) ∷ []

-- and below the declared size
abbrev pub declared : List (List ℕ × List (List (List Class)))
declared =
    -- of types of sizes 1, 2 and 3
    (codes "scalarset T 0..0; module main() { forall (i in T) forall (j in T) p[i][j] : assert G 1; }", (named (0 ∷ 0 ∷ []) ∷ []) ∷ []) ∷
    (codes "scalarset T 0..1; module main() { forall (i in T) forall (j in T) forall (k in T) p[i][j][k] : assert G 1; }", (named (0 ∷ 0 ∷ 0 ∷ []) ∷ named (0 ∷ 0 ∷ 1 ∷ []) ∷ named (0 ∷ 1 ∷ 0 ∷ []) ∷ named (0 ∷ 1 ∷ 1 ∷ []) ∷ []) ∷ []) ∷
    (codes "scalarset T 0..2; module main() { forall (i in T) forall (j in T) p[i][j] : assert G 1; }", (named (0 ∷ 0 ∷ []) ∷ named (0 ∷ 1 ∷ []) ∷ []) ∷ []) ∷ []

-- two types side by side, of which neither counts for the other
abbrev pub sides : List (List ℕ × List (List (List Class)))
sides =
    (codes "scalarset T undefined; scalarset PROC undefined; module main() { forall (i in T) forall (a in PROC) forall (j in T) p[i][a][j] : assert G 1; }", (named (0 ∷ 0 ∷ 0 ∷ []) ∷ named (0 ∷ 0 ∷ 1 ∷ []) ∷ []) ∷ []) ∷
    -- an ordset beside a scalarset
    (codes "scalarset T undefined; ordset I undefined; module main() { forall (i in T) forall (a in I) forall (b in I) p[i][a][b] : assert G 1; }", (named (0 ∷ 0 ∷ 0 ∷ []) ∷ named (0 ∷ 0 ∷ 1 ∷ []) ∷ named (0 ∷ 1 ∷ 0 ∷ []) ∷ []) ∷ []) ∷ []

-- the classes of an ordset are all numbers from 0 on, in any order and with repeats
abbrev pub ordsets : List (List ℕ × List (List (List Class)))
ordsets =
    (codes "ordset I undefined; module main() { forall (i in I) forall (j in I) p[i][j] : assert G (i < j | i = j | j < i); }", (named (0 ∷ 0 ∷ []) ∷ named (0 ∷ 1 ∷ []) ∷ named (1 ∷ 0 ∷ []) ∷ []) ∷ []) ∷
    (codes "ordset I undefined; module main() { forall (i in I) p[i] : assert G 1; }", (named (0 ∷ []) ∷ []) ∷ []) ∷
    -- three parameters
    (codes "ordset I undefined; module main() { forall (i in I) forall (j in I) forall (k in I) p[i][j][k] : assert G 1; }", (named (0 ∷ 0 ∷ 0 ∷ []) ∷ named (0 ∷ 0 ∷ 1 ∷ []) ∷ named (0 ∷ 1 ∷ 0 ∷ []) ∷ named (0 ∷ 1 ∷ 1 ∷ []) ∷ named (0 ∷ 1 ∷ 2 ∷ []) ∷ named (0 ∷ 2 ∷ 1 ∷ []) ∷ named (1 ∷ 0 ∷ 0 ∷ []) ∷ named (1 ∷ 0 ∷ 1 ∷ []) ∷ named (1 ∷ 0 ∷ 2 ∷ []) ∷ named (1 ∷ 1 ∷ 0 ∷ []) ∷ named (1 ∷ 2 ∷ 0 ∷ []) ∷ named (2 ∷ 0 ∷ 1 ∷ []) ∷ named (2 ∷ 1 ∷ 0 ∷ []) ∷ []) ∷ []) ∷ []

-- numbers have all their values; a leaf without a parameter has one case; the map of an array has its index; each leaf has its own
abbrev pub others : List (List ℕ × List (List (List Class)))
others =
    (codes "module main() { forall (i in 0..1) forall (j in 2..3) p[i][j] : assert G 1; }", (numbers (0 ∷ 2 ∷ []) ∷ numbers (0 ∷ 3 ∷ []) ∷ numbers (1 ∷ 2 ∷ []) ∷ numbers (1 ∷ 3 ∷ []) ∷ []) ∷ []) ∷
    (codes "module main() { p : assert G 1; }", ([] ∷ []) ∷ []) ∷
    (codes "scalarset T undefined; module main() { x : array T of boolean; layer L : { forall (i in T) x[i] := 0; } forall (i in 0..1) p[i] : assert G 1; }", (named (0 ∷ []) ∷ []) ∷ (numbers (0 ∷ []) ∷ numbers (1 ∷ []) ∷ []) ∷ []) ∷
    -- a split's own parameters stand behind the unit's
    (codes "scalarset T undefined; module main() { x : array T of T; layer L : { forall (i in T) x[i] := i; } forall (i in T) forall (j in T) subcase s[j] of x[i]//L for x[i] = j; }", (named (0 ∷ 0 ∷ []) ∷ named (0 ∷ 1 ∷ []) ∷ []) ∷ []) ∷ []

-- parameters that do not stay have the classes of those that do, and then the rests
abbrev pub kept : List (List ℕ × List (List (List Class)))
kept =
    -- a scalarset of no declared size
    (codes "scalarset T undefined; module main() { forall (i in T) forall (j in T) p[i][j] : assert G 1; using T->{i} prove p[i][j]; }", ((Named 0 ∷ Named 0 ∷ []) ∷ (Named 0 ∷ Rest 0 ∷ []) ∷ []) ∷ []) ∷
    -- one that has no more values than classes, and one that has
    (codes "scalarset T 0..0; module main() { forall (i in T) forall (j in T) p[i][j] : assert G 1; using T->{i} prove p[i][j]; }", ((Named 0 ∷ Named 0 ∷ []) ∷ []) ∷ []) ∷
    (codes "scalarset T 0..1; module main() { forall (i in T) forall (j in T) p[i][j] : assert G 1; using T->{i} prove p[i][j]; }", ((Named 0 ∷ Named 0 ∷ []) ∷ (Named 0 ∷ Rest 0 ∷ []) ∷ []) ∷ []) ∷
    -- an ordset has a gap below and above its class
    (codes "ordset I undefined; module main() { forall (i in I) forall (j in I) p[i][j] : assert G 1; using I->{i} prove p[i][j]; }", ((Named 0 ∷ Named 0 ∷ []) ∷ (Named 0 ∷ Rest 0 ∷ []) ∷ (Named 0 ∷ Rest 1 ∷ []) ∷ []) ∷ []) ∷
    -- one of two, the second: classes come before the rest
    (codes "scalarset T undefined; module main() { forall (i in T) forall (j in T) p[i][j] : assert G 1; forall (i in T) forall (j in T) using T->{j} prove p[i][j]; }", ((Named 0 ∷ Named 0 ∷ []) ∷ (Rest 0 ∷ Named 0 ∷ []) ∷ []) ∷ []) ∷
    -- none: the rest alone, also of a declared size
    (codes "scalarset T undefined; module main() { forall (i in T) p[i] : assert G 1; using T->{} prove p; }", ((Rest 0 ∷ []) ∷ []) ∷ []) ∷
    (codes "scalarset T 0..1; module main() { forall (i in T) p[i] : assert G 1; using T->{} prove p; }", ((Rest 0 ∷ []) ∷ []) ∷ []) ∷
    -- two of three, of no declared size
    (codes "scalarset T undefined; module main() { forall (i in T) forall (j in T) forall (k in T) p[i][j][k] : assert G 1; forall (i in T) forall (j in T) forall (k in T) using T->{i, k} prove p[i][j][k]; }", ((Named 0 ∷ Named 0 ∷ Named 0 ∷ []) ∷ (Named 0 ∷ Named 0 ∷ Named 1 ∷ []) ∷ (Named 0 ∷ Named 1 ∷ Named 1 ∷ []) ∷ (Named 0 ∷ Rest 0 ∷ Named 0 ∷ []) ∷ (Named 0 ∷ Rest 0 ∷ Named 1 ∷ []) ∷ []) ∷ []) ∷
    -- of three values: a rest beside one class and beside two
    (codes "scalarset P 0..2; module main() { forall (i in P) forall (j in P) forall (k in P) p[i][j][k] : assert G 1; forall (i in P) forall (j in P) forall (k in P) using P->{i, j} prove p[i][j][k]; }", ((Named 0 ∷ Named 0 ∷ Named 0 ∷ []) ∷ (Named 0 ∷ Named 0 ∷ Rest 0 ∷ []) ∷ (Named 0 ∷ Named 1 ∷ Named 0 ∷ []) ∷ (Named 0 ∷ Named 1 ∷ Named 1 ∷ []) ∷ (Named 0 ∷ Named 1 ∷ Rest 0 ∷ []) ∷ []) ∷ []) ∷
    -- of two values: none beside two classes
    (codes "scalarset P 0..1; module main() { forall (i in P) forall (j in P) forall (k in P) p[i][j][k] : assert G 1; forall (i in P) forall (j in P) forall (k in P) using P->{i, j} prove p[i][j][k]; }", ((Named 0 ∷ Named 0 ∷ Named 0 ∷ []) ∷ (Named 0 ∷ Named 0 ∷ Rest 0 ∷ []) ∷ (Named 0 ∷ Named 1 ∷ Named 0 ∷ []) ∷ (Named 0 ∷ Named 1 ∷ Named 1 ∷ []) ∷ []) ∷ []) ∷
    -- of one value: those that stay have it too
    (codes "scalarset P 0..0; module main() { forall (i in P) forall (j in P) forall (k in P) p[i][j][k] : assert G 1; forall (i in P) forall (j in P) forall (k in P) using P->{i, j} prove p[i][j][k]; }", ((Named 0 ∷ Named 0 ∷ Named 0 ∷ []) ∷ []) ∷ []) ∷
    -- an ordset has gaps around each number of classes: two of three stay
    (codes "ordset I undefined; module main() { forall (i in I) forall (j in I) forall (k in I) p[i][j][k] : assert G 1; forall (i in I) forall (j in I) forall (k in I) using I->{i, j} prove p[i][j][k]; }", ((Named 0 ∷ Named 0 ∷ Named 0 ∷ []) ∷ (Named 0 ∷ Named 0 ∷ Rest 0 ∷ []) ∷ (Named 0 ∷ Named 0 ∷ Rest 1 ∷ []) ∷ (Named 0 ∷ Named 1 ∷ Named 0 ∷ []) ∷ (Named 0 ∷ Named 1 ∷ Named 1 ∷ []) ∷ (Named 0 ∷ Named 1 ∷ Rest 0 ∷ []) ∷ (Named 0 ∷ Named 1 ∷ Rest 1 ∷ []) ∷ (Named 0 ∷ Named 1 ∷ Rest 2 ∷ []) ∷ (Named 1 ∷ Named 0 ∷ Named 0 ∷ []) ∷ (Named 1 ∷ Named 0 ∷ Named 1 ∷ []) ∷ (Named 1 ∷ Named 0 ∷ Rest 0 ∷ []) ∷ (Named 1 ∷ Named 0 ∷ Rest 1 ∷ []) ∷ (Named 1 ∷ Named 0 ∷ Rest 2 ∷ []) ∷ []) ∷ []) ∷
    -- the second of two
    (codes "ordset I undefined; module main() { forall (i in I) forall (j in I) p[i][j] : assert G 1; forall (i in I) forall (j in I) using I->{j} prove p[i][j]; }", ((Named 0 ∷ Named 0 ∷ []) ∷ (Rest 0 ∷ Named 0 ∷ []) ∷ (Rest 1 ∷ Named 0 ∷ []) ∷ []) ∷ []) ∷
    -- none: one gap
    (codes "ordset I undefined; module main() { forall (i in I) p[i] : assert G 1; using I->{} prove p; }", ((Rest 0 ∷ []) ∷ []) ∷ []) ∷ []

-- a reduced Tomasulo machine: 1, 2, 2 and 1 cases
abbrev pub tomasulo : List (List ℕ × List (List (List Class)))
tomasulo = (machine, (named (0 ∷ 0 ∷ []) ∷ []) ∷ (named (0 ∷ 0 ∷ 0 ∷ 0 ∷ []) ∷ named (0 ∷ 1 ∷ 0 ∷ 0 ∷ []) ∷ []) ∷ (named (0 ∷ 0 ∷ 0 ∷ []) ∷ named (0 ∷ 0 ∷ 1 ∷ []) ∷ []) ∷ (named (0 ∷ 0 ∷ 0 ∷ []) ∷ []) ∷ []) ∷ []
