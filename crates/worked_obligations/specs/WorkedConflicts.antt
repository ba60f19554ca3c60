-- Worked definitions, with and without conflicts.
use Rattle.std.specs.Prelude.{List, [], ◌∷◌}
use Rattle.smv_core.specs.declared.flat.Simple.TheVariants.{Set}
use Rattle.smv_core.specs.declared.flat.FlatExpr.{FlatExpr}
use Rattle.smv_core.specs.declared.flat.DefBody.{DefBody, Assign, If, First, Forall}
use Rattle.law_obligations.specs.FlatConflicts.{HasNoConflict}
use Rattle.worked_obligations.specs.Worked.{signal, variable, num}

abbrev pub assign : List FlatExpr → DefBody
assign left = Assign left (num 0) 0 0

-- forall (i in P) if (c) x[i][i][d] := 0; else if (c) x[i][d][i] := 0; else x[d][i][i] := 0: each two share an index for i, though no one index serves all three
abbrev pub pairs_share : DefBody
pairs_share = Forall 0 (Set 0) (If (signal 1) (assign (variable ∷ variable ∷ signal 0 ∷ []))
    (If (signal 1) (assign (variable ∷ signal 0 ∷ variable ∷ [])) (assign (signal 0 ∷ variable ∷ variable ∷ []))))

abbrev pub PairsShare : Type 0
PairsShare = HasNoConflict 0 3 pairs_share

-- forall (i in P) if (c) x[i][d] := 0; else x[d][i] := 0: the two share no index for i
abbrev pub NonePairs : Type 0
NonePairs = HasNoConflict 0 2 (Forall 0 (Set 0) (If (signal 1) (assign (variable ∷ signal 0 ∷ [])) (assign (signal 0 ∷ variable ∷ [])))) → ⊥

-- forall (i in P) if (c) x[i][0] := 0; else x[d][1] := 0: the second has no index for i
abbrev pub NoneStands : Type 0
NoneStands = HasNoConflict 0 2 (Forall 0 (Set 0) (If (signal 1) (assign (variable ∷ num 0 ∷ [])) (assign (signal 0 ∷ num 1 ∷ [])))) → ⊥

-- x[0] := 0 beside forall (i in P) x[i] := 0, as the two parts of a `default`
abbrev pub PartsStand : Type 0
PartsStand = HasNoConflict 0 1 (First (assign (num 0 ∷ []) ∷ Forall 0 (Set 0) (assign (variable ∷ [])) ∷ []))
