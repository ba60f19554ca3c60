-- Worked texts by theme, each with the first fault of the rules of proof. Each answer was worked out by hand, the places too.
use Rattle.std.specs.Prelude.{ℕ, List, [], ◌∷◌, ◌≡◌, map, codes, Option, Some, None}
use Rattle.smv_core.specs.declared.flat.FlatText.{FlatText}
use Rattle.worked_texts.specs.Worked.{Answer, fault, valid, unread, answer_of}
use Rattle.worked_texts.specs.FlatteningWorked.{flattened}
use Rattle.law_designs.specs.Definitions.{design_of_flat_text}
use Rattle.smv_plans.specs.Plans.{plan_fault}

abbrev of_flattened : Option FlatText → Answer
of_flattened None = unread
of_flattened (Some flat_text) = answer_of (plan_fault (design_of_flat_text flat_text))

-- the first fault of the rules of proof in these bytes, where their names and size have none
abbrev pub found_in : List ℕ → Answer
found_in text = of_flattened (flattened text)

-- each text has the answer that was worked out for it
abbrev pub AreFound : List (List ℕ × Answer) → Type 0
AreFound rows = map (λ (text, answer). found_in text) rows ≡ map (λ (text, answer). answer) rows

-- splits come first, then uses, and then cases, wherever they stand
abbrev pub passes : List (List ℕ × Answer)
passes =
    -- no fault
    (codes "module main() { x : boolean; p : assert G 1; forall (k in 0..1) subcase s[k] of p for x = k; using p prove s; }", valid) ∷
    -- a split and a use, which stands earlier
    (codes "module main() { x : boolean; p : assert G 1; using q prove p; forall (k in 0..1) subcase s[k] of q for x = k; }", fault 23 97) ∷
    -- a use and a leaf of nine parameters, which stands earlier
    (codes "module main() { forall (a in 0..0) forall (b in 0..0) forall (c in 0..0) forall (d in 0..0) forall (e in 0..0) forall (f in 0..0) forall (g in 0..0) forall (h in 0..0) forall (i in 0..0) p[a][b][c][d][e][f][g][h][i] : assert G 1; using q prove p; }", fault 26 236) ∷
    -- a split and such a leaf
    (codes "module main() { x : boolean; forall (a in 0..0) forall (b in 0..0) forall (c in 0..0) forall (d in 0..0) forall (e in 0..0) forall (f in 0..0) forall (g in 0..0) forall (h in 0..0) forall (i in 0..0) p[a][b][c][d][e][f][g][h][i] : assert G 1; forall (k in 0..1) subcase s[k] of q for x = k; }", fault 23 278) ∷
    -- all three
    (codes "module main() { x : boolean; forall (a in 0..0) forall (b in 0..0) forall (c in 0..0) forall (d in 0..0) forall (e in 0..0) forall (f in 0..0) forall (g in 0..0) forall (h in 0..0) forall (i in 0..0) p[a][b][c][d][e][f][g][h][i] : assert G 1; using q prove p; forall (k in 0..1) subcase s[k] of p for x = k, x = l; }", fault 24 312) ∷
    -- such a leaf alone
    (codes "module main() { x : boolean; forall (a in 0..0) forall (b in 0..0) forall (c in 0..0) forall (d in 0..0) forall (e in 0..0) forall (f in 0..0) forall (g in 0..0) forall (h in 0..0) forall (i in 0..0) p[a][b][c][d][e][f][g][h][i] : assert G 1; using x//free prove p; }", fault 29 200) ∷ []

-- of several leaves of too many the one whose unit has the least place
abbrev pub leaves : List (List ℕ × Answer)
leaves =
    -- in the order of the text
    (codes "module main() { forall (a in 0..0) forall (b in 0..0) forall (c in 0..0) forall (d in 0..0) forall (e in 0..0) forall (f in 0..0) forall (g in 0..0) forall (h in 0..0) forall (i in 0..0) p[a][b][c][d][e][f][g][h][i] : assert G 1; forall (a in 0..0) forall (b in 0..0) forall (c in 0..0) forall (d in 0..0) forall (e in 0..0) forall (f in 0..0) forall (g in 0..0) forall (h in 0..0) forall (i in 0..0) q[a][b][c][d][e][f][g][h][i] : assert G 1; }", fault 29 187) ∷
    -- also where another is met before
    (codes "module m() { forall (a in 0..0) forall (b in 0..0) forall (c in 0..0) forall (d in 0..0) forall (e in 0..0) forall (f in 0..0) forall (g in 0..0) forall (h in 0..0) forall (i in 0..0) p[a][b][c][d][e][f][g][h][i] : assert G 1; } module main() { forall (a in 0..0) forall (b in 0..0) forall (c in 0..0) forall (d in 0..0) forall (e in 0..0) forall (f in 0..0) forall (g in 0..0) forall (h in 0..0) forall (i in 0..0) q[a][b][c][d][e][f][g][h][i] : assert G 1; n : m(); }", fault 29 184) ∷
    -- a leaf that a split made too large
    (codes "module main() { x : boolean; forall (a in 0..0) forall (b in 0..0) forall (c in 0..0) forall (d in 0..0) forall (e in 0..0) forall (f in 0..0) forall (g in 0..0) forall (h in 0..0) p[a][b][c][d][e][f][g][h] : assert G 1; forall (k in 0..1) subcase s[k] of p for x = k; }", fault 29 181) ∷ []
