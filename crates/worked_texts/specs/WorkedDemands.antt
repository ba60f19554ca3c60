-- Worked texts, each with the definitions that are demanded in each case of each leaf, now and before. Each was worked out by hand.
use Rattle.std.specs.Prelude.{ℕ, List, [], ◌∷◌, Some, None, codes}
use Rattle.worked_texts.specs.CasesWorked.{Told, of_class}

-- a map that uses itself holds before of the target's element alone, beside its family's definition
abbrev pub itself : List (List ℕ × List (List (List Told × List Told)))
itself =
    -- the target's element alone, beside other elements of its family
    (codes "scalarset P undefined; module main() { x : array P of boolean; a : P; layer L : { forall (i in P) next(x[i]) := &[x[j] : j in P]; } forall (j in P) subcase s[j] of x//L for a = j; using x//L prove s; }", (([], of_class (Some 0) 0 ∷ []) ∷ ([], of_class (Some 0) 0 ∷ []) ∷ []) ∷ []) ∷
    -- and the base definition of each element
    (codes "scalarset P undefined; module main() { x : array P of boolean; a : P; forall (i in P) next(x[i]) := x[i]; layer L : { forall (i in P) next(x[i]) := &[x[j] : j in P]; } forall (j in P) subcase s[j] of x//L for a = j; using x//L prove s; }", ((of_class None 0 ∷ [], of_class (Some 0) 0 ∷ []) ∷ (of_class None 0 ∷ of_class None 1 ∷ [], of_class (Some 0) 0 ∷ []) ∷ []) ∷ []) ∷
    -- or the definition that is chosen for the family
    (codes "scalarset P undefined; module main() { x : array P of boolean; a : P; forall (i in P) next(x[i]) := x[i]; layer L : { forall (i in P) next(x[i]) := &[x[j] : j in P]; } layer K : { forall (i in P) x[i] := 1; } forall (j in P) subcase s[j] of x//L for a = j; using x//L, x//K prove s; }", ((of_class (Some 1) 0 ∷ [], of_class (Some 0) 0 ∷ []) ∷ (of_class (Some 1) 0 ∷ of_class (Some 1) 1 ∷ [], of_class (Some 0) 0 ∷ []) ∷ []) ∷ ((of_class None 0 ∷ [], []) ∷ []) ∷ []) ∷
    -- nothing of the map where it is not used
    (codes "scalarset P undefined; module main() { x : array P of boolean; a : P; forall (i in P) next(x[i]) := x[i]; layer L : { forall (i in P) next(x[i]) := &[x[j] : j in P]; } forall (j in P) subcase s[j] of x//L for a = j; }", ((of_class None 0 ∷ [], []) ∷ (of_class None 0 ∷ of_class None 1 ∷ [], []) ∷ []) ∷ []) ∷ []

-- if that element is kept
abbrev pub where_kept : List (List ℕ × List (List (List Told × List Told)))
where_kept =
    -- kept, and not
    (codes "scalarset P undefined; module main() { x : array P of boolean; layer L : { forall (i in P) x[i] := 1; } forall (i in P) using x//L, P->{i} prove x[i]//L; }", (([], of_class (Some 0) 0 ∷ []) ∷ []) ∷ []) ∷
    (codes "scalarset P undefined; module main() { x : array P of boolean; layer L : { forall (i in P) x[i] := 1; } forall (i in P) using x//L, P->{} prove x[i]//L; }", (([], []) ∷ []) ∷ []) ∷ []
