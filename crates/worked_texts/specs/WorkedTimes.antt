-- Worked texts by theme, each with the times of the uses of each of its leaves, in the order of units. Each was worked out by hand.
use Rattle.std.specs.Prelude.{ℕ, List, [], ◌∷◌, codes}
use Rattle.smv_core.specs.declared.flat.Timed.{Timed}
use Rattle.smv_core.specs.declared.flat.Timing.TheVariants.{Now, Before}
use Rattle.worked_texts.specs.Tomasulo.{machine}
use Rattle.worked_texts.specs.CasesWorked.{times, of_maps, of_claims}

-- the rows of the language's definition
abbrev pub rows : List (List ℕ × List Timed)
rows =
    -- two claims that use each other: the earlier one uses the later one before
    (codes "module main() { x : boolean; p : assert G x; q : assert G x; using q prove p; using p prove q; }", of_claims (Before ∷ []) ∷ of_claims (Now ∷ []) ∷ []) ∷
    -- two maps that use each other, of signals that step each other
    (codes "module main() { a, b : boolean; init(a) := 0; init(b) := 0; next(a) := b; next(b) := a; layer spec : { a := 0; b := 0; } using b//spec prove a//spec; using a//spec prove b//spec; }", of_maps (Before ∷ []) ∷ of_maps (Before ∷ []) ∷ []) ∷ []

-- a use on a cycle is before, unless the used unit stands earlier
abbrev pub cycles : List (List ℕ × List Timed)
cycles =
    -- three in a ring
    (codes "module main() { p : assert G 1; q : assert G 1; r : assert G 1; using q prove p; using r prove q; using p prove r; }", of_claims (Before ∷ []) ∷ of_claims (Before ∷ []) ∷ of_claims (Now ∷ []) ∷ []) ∷
    -- three in a row, and the first in front of the ring of the others
    (codes "module main() { p : assert G 1; q : assert G 1; r : assert G 1; using q, r prove p; using r prove q; }", of_claims (Now ∷ Now ∷ []) ∷ of_claims (Now ∷ []) ∷ of_claims [] ∷ []) ∷
    (codes "module main() { p : assert G 1; q : assert G 1; r : assert G 1; using q, r prove p; using r prove q; using q prove r; }", of_claims (Now ∷ Now ∷ []) ∷ of_claims (Before ∷ []) ∷ of_claims (Now ∷ []) ∷ []) ∷
    -- a claim that uses itself
    (codes "module main() { p : assert G 1; using p prove p; }", of_claims (Before ∷ []) ∷ []) ∷
    -- a map and a claim
    (codes "module main() { x : boolean; layer L : { x := 0; } p : assert G x; using p prove x//L; using x//L prove p; }", of_claims (Before ∷ []) ∷ of_maps (Now ∷ []) ∷ []) ∷
    -- a claim that uses itself and an earlier one
    (codes "module main() { p : assert G 1; q : assert G 1; using p, q prove q; }", of_claims [] ∷ of_claims (Now ∷ Before ∷ []) ∷ []) ∷
    -- earlier is what is met earlier, also where it is written later
    (codes "module m() { p : assert G 1; } module main() { using q prove n.p; using n.p prove q; q : assert G 1; n : m(); }", of_claims (Before ∷ []) ∷ of_claims (Now ∷ []) ∷ []) ∷
    -- two maps that read each other's signals
    (codes "module main() { a, b : boolean; layer L : { a := b; b := 0; } layer K : { b := a; } using b//K prove a//L; using a//L prove b//K; }", of_maps (Before ∷ []) ∷ of_maps [] ∷ of_maps (Now ∷ []) ∷ []) ∷ []

-- a map of a family outside the same-time set is before
abbrev pub same_time : List (List ℕ × List Timed)
same_time =
    -- `a` reads b in `:=`, and b is read in `next` alone
    (codes "module main() { a, b : boolean; a := b; next(b) := a; layer spec : { a := 0; b := 0; } using b//spec prove a//spec; using a//spec prove b//spec; }", of_maps (Now ∷ []) ∷ of_maps (Before ∷ []) ∷ []) ∷
    -- in `init`, in the condition around a `:=`, and in that around a `next`
    (codes "module main() { a, b : boolean; init(a) := b; layer spec : { a := 0; b := 0; } using b//spec prove a//spec; }", of_maps (Now ∷ []) ∷ of_maps [] ∷ []) ∷
    (codes "module main() { a, b : boolean; if (b) a := 0; layer spec : { a := 0; b := 0; } using b//spec prove a//spec; }", of_maps (Now ∷ []) ∷ of_maps [] ∷ []) ∷
    (codes "module main() { a, b : boolean; if (b) next(a) := 0; layer spec : { a := 0; b := 0; } using b//spec prove a//spec; }", of_maps (Before ∷ []) ∷ of_maps [] ∷ []) ∷
    -- what the layer itself reads
    (codes "module main() { a, b : boolean; layer spec : { a := b; b := 0; } using b//spec prove a//spec; }", of_maps (Now ∷ []) ∷ of_maps [] ∷ []) ∷
    -- by another family, whose definition is chosen to be another one, or free
    (codes "module main() { a, b, c : boolean; a := c; c := b; layer spec : { a := 0; b := 0; c := 0; } using b//spec prove a//spec; }", of_maps (Now ∷ []) ∷ of_maps [] ∷ of_maps [] ∷ []) ∷
    (codes "module main() { a, b, c : boolean; a := c; c := b; layer spec : { a := 0; b := 0; c := 0; } using c//spec, b//spec prove a//spec; }", of_maps (Now ∷ Before ∷ []) ∷ of_maps [] ∷ of_maps [] ∷ []) ∷
    (codes "module main() { a, b, c : boolean; a := c; c := b; layer spec : { a := 0; b := 0; c := 0; } using c//free, b//spec prove a//spec; }", of_maps (Now ∷ Before ∷ []) ∷ of_maps [] ∷ of_maps [] ∷ []) ∷
    -- a guard reads b
    (codes "module main() { a, b : boolean; layer spec : { a := 0; b := 0; } forall (i in 0..1) subcase s[i] of a//spec for b = i; using b//spec prove s; }", of_maps (Now ∷ []) ∷ of_maps [] ∷ []) ∷
    -- a claim that is used reads b, and one that is used in parentheses does not count
    (codes "module main() { a, b : boolean; layer spec : { a := 0; b := 0; } p : assert G b; using p, b//spec prove a//spec; }", times (Now ∷ []) (Now ∷ []) ∷ of_maps [] ∷ of_claims [] ∷ []) ∷
    (codes "module main() { a, b : boolean; layer spec : { a := 0; b := 0; } p : assert G b; using (p), b//spec prove a//spec; }", times (Before ∷ []) (Before ∷ []) ∷ of_maps [] ∷ of_claims [] ∷ []) ∷
    -- a claim reads its indexes too
    (codes "module main() { x : array 0..1 of boolean; i : 0..1; layer L : { i := 0; } p : assert G x[i]; using i//L prove p; }", of_maps [] ∷ of_maps (Now ∷ []) ∷ []) ∷
    -- of a map its own family, read or not
    (codes "module main() { x : boolean; layer L : { x := 0; } layer K : { x := 0; } using x//K prove x//L; }", of_maps (Now ∷ []) ∷ of_maps [] ∷ []) ∷
    -- and no other
    (codes "module main() { a, b : boolean; layer L : { a := 0; } layer K : { a := 0; b := 0; } using a//K, b//K prove a//L; }", of_maps (Now ∷ Before ∷ []) ∷ of_maps [] ∷ of_maps [] ∷ []) ∷
    -- what the layer reads in `init`, in a condition, and in `next`
    (codes "module main() { a, b : boolean; layer spec : { init(a) := b; b := 0; } using b//spec prove a//spec; }", of_maps (Now ∷ []) ∷ of_maps [] ∷ []) ∷
    (codes "module main() { a, b : boolean; layer spec : { if (b) a := 0; b := 0; } using b//spec prove a//spec; }", of_maps (Now ∷ []) ∷ of_maps [] ∷ []) ∷
    (codes "module main() { a, b : boolean; layer spec : { next(a) := b; b := 0; } using b//spec prove a//spec; }", of_maps (Before ∷ []) ∷ of_maps [] ∷ []) ∷
    -- a claim does not read b
    (codes "module main() { b : boolean; layer L : { b := 0; } p : assert G 1; using b//L prove p; }", of_maps [] ∷ of_maps (Before ∷ []) ∷ []) ∷
    -- a guard reads b in an index
    (codes "module main() { x : array 0..1 of boolean; b : 0..1; layer L : { b := 0; } p : assert G 1; forall (i in 0..1) subcase s[i] of p for x[b] = i; using b//L prove s; }", of_maps [] ∷ of_maps (Now ∷ []) ∷ []) ∷
    -- a claim that a claim uses reads b, outside parentheses and in them
    (codes "module main() { b : boolean; layer L : { b := 0; } p : assert G 1; q : assert G b; using q, b//L prove p; }", of_maps [] ∷ times (Now ∷ []) (Now ∷ []) ∷ of_claims [] ∷ []) ∷
    (codes "module main() { b : boolean; layer L : { b := 0; } p : assert G 1; q : assert G b; using (q), b//L prove p; }", of_maps [] ∷ times (Before ∷ []) (Before ∷ []) ∷ of_claims [] ∷ []) ∷
    -- a definition that is chosen reads c, in `:=`, in `init`, and in `next`
    (codes "module main() { a, b, c : boolean; a := b; layer spec : { a := 0; b := c; c := 0; } using b//spec, c//spec prove a//spec; }", of_maps (Now ∷ Now ∷ []) ∷ of_maps [] ∷ of_maps [] ∷ []) ∷
    (codes "module main() { a, b, c : boolean; a := b; layer spec : { a := 0; init(b) := c; c := 0; } using b//spec, c//spec prove a//spec; }", of_maps (Now ∷ Now ∷ []) ∷ of_maps [] ∷ of_maps [] ∷ []) ∷
    (codes "module main() { a, b, c : boolean; a := b; layer spec : { a := 0; next(b) := c; c := 0; } using b//spec, c//spec prove a//spec; }", of_maps (Now ∷ Before ∷ []) ∷ of_maps [] ∷ of_maps [] ∷ []) ∷ []

-- uses whose time needs no graph
abbrev pub settled : List (List ℕ × List Timed)
settled =
    -- `free` is now, in parentheses too
    (codes "module main() { x, y : boolean; p : assert G 1; using (x//free), y//free prove p; }", of_maps (Now ∷ Now ∷ []) ∷ []) ∷
    -- a use in parentheses is before, and makes no cycle
    (codes "module main() { p : assert G 1; q : assert G 1; using (q) prove p; using p prove q; }", of_claims (Before ∷ []) ∷ of_claims (Now ∷ []) ∷ []) ∷
    (codes "module main() { x : boolean; layer L : { x := 0; } p : assert G x; using (x//L) prove p; }", of_maps [] ∷ of_maps (Before ∷ []) ∷ []) ∷
    -- the base definition of an abstract signal is no unit, so it lies on no cycle
    (codes "module main() { abstract s : boolean; x : boolean; layer L : { s := 0; } layer K : { s := 0; x := 0; } using s//L prove x//K; using x//K, s//L prove s//K; }", of_maps (Before ∷ Now ∷ []) ∷ of_maps (Before ∷ []) ∷ []) ∷
    -- nothing is used
    (codes "module main() { x : boolean; layer L : { x := 0; } p : assert G 1; }", of_maps [] ∷ of_maps [] ∷ []) ∷ []

-- a reduced Tomasulo machine: `ir.val//lem` in `rd1` and `st.va//lem` in `bw1` are now, all other uses of maps before
abbrev pub tomasulo : List (List ℕ × List Timed)
tomasulo = (machine, of_maps (Now ∷ Now ∷ Now ∷ []) ∷ of_maps (Before ∷ Before ∷ Now ∷ Now ∷ []) ∷ of_maps (Now ∷ Now ∷ Now ∷ []) ∷ of_maps (Before ∷ Now ∷ Now ∷ []) ∷ []) ∷ []
