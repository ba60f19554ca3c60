-- Pairs of assignments that conflict, and pairs that do not.
use Rattle.std.proofs.Common.{◌≡◌, ℕ, zero, suc, ◌<◌, inl, inr, [], ◌∷◌, get_or, Contains, refl, false, true, subst, ⊎_elim, arith}
use Rattle.smv_core.specs.Assignments.{Assigned, any, bare}
use Rattle.smv_core.specs.Conflicts.{HasNoConflict, HasVariables, EachTwo, IsForall, share}
use Rattle.smv_core.specs.declared.tree.Kind.TheVariants.{Comb}
use Rattle.smv_core.specs.declared.tree.Path.{roll-Path, Path as TreePath}
use Rattle.smv_core.specs.declared.tree.Part.{Field, At}
use Rattle.smv_core.specs.declared.tree.Stmt.{Stmt, Block, Default, Forall}
use Rattle.law_meaning.proofs.Built.{computing, w, i, j, x, sig, num, span, at, path, set}

-- forall (i in 0..1) default { forall (j in 0..1) s } in { forall (j in 0..1) t }
abbrev at_two : Stmt → Stmt → Stmt
at_two s t = Forall (w i) (span 0 1) (Default (Forall (w j) (span 0 1) s 0) (Forall (w j) (span 0 1) t 0) 0) 0

-- x[e][f]
abbrev cell : ℕ → ℕ → TreePath
cell e f = roll-Path (record { parts = Field (w x) ∷ At (sig e) ∷ At (sig f) ∷ []; at = 0 })

false_true : false ≡ true → ⊥
false_true e = cc

-- one assignment each: it is enough to look at the two
two-by : (P : Assigned → Assigned → Type 0) (a b : Assigned) → P a b → EachTwo P (a ∷ []) (b ∷ [])
two-by P a b p kind path c d in_c in_d is_c is_d = subst (λ d. P c d) (only b d in_d) (subst (λ c. P c b) (only a c in_c) p)
  where
    only : (a c : Assigned) → Contains (a ∷ []) c → a ≡ c
    only a c p = at_place p.0 p.1 p.2
      where
        at_place : (n : ℕ) → n < 1 → get_or (a ∷ []) n c ≡ c → a ≡ c
        at_place zero h e = e
        at_place (suc n) h e = absurd (omega (arith, h))

-- forall (i) default { forall (j) x[i][j] := 0; } in { forall (j) x[j][i] := 1; } conflicts: i stands at two different indexes, so which of i and j comes first would count
crossing-conflicts : HasNoConflict [] (at_two (set (cell i j) (num 0)) (set (cell j i) (num 1))) [] → ⊥
unfolding computing
crossing-conflicts h = ⊎_elim false_true (λ g. false_true (g 0 (inl refl)))
    (h.2 Comb ((x ∷ []) ∷ []) (record { kind = Comb; path = (x ∷ []) ∷ []; indexes = bare 0 ∷ bare 1 ∷ [] }) (record { kind = Comb; path = (x ∷ []) ∷ []; indexes = bare 1 ∷ bare 0 ∷ [] })
    (0, omega arith, refl) (0, omega arith, refl) refl refl)

abbrev i_j : Assigned
i_j = record { kind = Comb; path = (x ∷ []) ∷ []; indexes = bare 0 ∷ bare 1 ∷ [] }

at_first : (k : ℕ) → IsForall ((i ∷ [], any) ∷ []) k → share k i_j i_j ≡ true
at_first k (inl e) = subst (λ k. share k i_j i_j ≡ true) e refl
at_first k (inr p) = absurd p

-- with x[i][j] in both parts it does not: i stands bare at the first index of both
same-order-is-free : HasNoConflict [] (at_two (set (cell i j) (num 0)) (set (cell i j) (num 1))) []
unfolding computing
same-order-is-free = (tt, tt, two-by _ i_j i_j (inr at_first))

-- { x := 0; x := 1; } conflicts
twice-conflicts : HasNoConflict [] (Block (set (path (x ∷ [])) (num 0) ∷ set (path (x ∷ [])) (num 1) ∷ [])) [] → ⊥
unfolding computing
twice-conflicts h = false_true (h.2 Comb ((x ∷ []) ∷ []) (record { kind = Comb; path = (x ∷ []) ∷ []; indexes = [] }) (record { kind = Comb; path = (x ∷ []) ∷ []; indexes = [] })
    (0, omega arith, refl) (0, omega arith, refl) refl refl)

-- { x[0] := 0; x[1] := 1; } does not: the indexes are two constants
two_constants-are-free : HasNoConflict [] (Block (set (at x (num 0)) (num 0) ∷ set (at x (num 1)) (num 1) ∷ [])) []
unfolding computing
two_constants-are-free = (tt, (tt, tt, λ kind path a b in_a in_b. absurd (omega (arith, in_b.1))), two-by _ _ _ refl)

-- forall (i in 0..1) x[0] := 0; lacks its variable
variable-lacking : HasVariables (Forall (w i) (span 0 1) (set (at x (num 0)) (num 0)) 0) [] → ⊥
unfolding computing
variable-lacking h = false_true (h 0 (inl refl))
