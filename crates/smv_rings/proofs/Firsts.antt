-- A function that doesn't read the first variable.
use Rattle.std.proofs.Common.{◌≡◌, ◌≢◌, ℕ, ◌<◌, Bool, eqb, sym, subst, arith}
use Rattle.std.proofs.lemmas.Bool.Decides.{nat_tests}
use Rattle.bdd_store.specs.declared.Ref.{Ref}
use Rattle.bdd_store.specs.Diagram.{Diagram, IsLive, IsReduced, table, first_var, DependsFrom}
use Rattle.bdd_store.proofs.Laws.{first_least}
use Rattle.bdd_ops.specs.Functions.{FreeOf}
use Rattle.smv_rings.proofs.Tables.{table_below}
use Rattle.smv_rings.proofs.Turns.{agree_but}

first_test : ℕ → Bool
first_test v = eqb v 0

free_from : (d : Diagram) (r : Ref) → FreeOf 0 (table d r) → DependsFrom d r 1
unfolding first_test
free_from d r free a c same = agree_but d.vars (table d r) first_test (table_below d r)
    (λ v lt e. let is : v ≡ 0 = grind (arith, nat_tests) in subst (λ (u : ℕ). FreeOf u (table d r)) (sym is) free)
    a c (λ v e. let ne : v ≢ 0 = grind (arith, nat_tests) in same v (omega arith))

pub first_later : (d : Diagram) (r : Ref) → IsReduced d → IsLive d r → FreeOf 0 (table d r) → first_var d r < d.vars → 0 < first_var d r
first_later d r ok live free lt = omega (arith, first_least d ok r 1 live (omega arith) (free_from d r free))
