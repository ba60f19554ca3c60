-- The worked definitions keep to the rule of conflicts, or do not.
use Rattle.std.proofs.Common.{◌≡◌, ℕ, zero, suc, ◌<◌, arith, List, [], ◌∷◌, Bool, true, false, refl, sym, ap, subst, inl, inr, Option, Some}
use Rattle.std.specs.List.{slice_get}
use Rattle.smv_core.specs.Assignments.{Index, bare, computed}
use Rattle.smv_core.specs.declared.flat.FlatExpr.{FlatExpr, Var}
use Rattle.law_obligations.specs.Sets.{first}
use Rattle.law_obligations.specs.FlatConflicts.{AreExcused, EachTwo}
use Rattle.worked_obligations.specs.Worked.{signal, num}
use Rattle.worked_obligations.specs.WorkedConflicts.{PairsShare, NonePairs, NoneStands, PartsStand}
use Rattle.law_obligations.proofs.Computing.{computing}
use Rattle.law_obligations.proofs.Members.{one_of_one, one_of_two}

clash : false ≡ true → ⊥
clash e = cc

-- below 1 there is only 0
at_zero : (P : ℕ → Type 0) → P 0 → (k : ℕ) → k < 1 → P k
at_zero P h zero l = h
at_zero P h (suc k) l = absurd (omega arith)

abbrev first_left : List Index
first_left = bare 0 ∷ bare 0 ∷ computed ∷ []

abbrev second_left : List Index
second_left = bare 0 ∷ computed ∷ bare 0 ∷ []

abbrev third_left : List Index
third_left = computed ∷ bare 0 ∷ bare 0 ∷ []

second_with_third : EachTwo 1 (second_left ∷ []) (third_left ∷ [])
second_with_third is js p q = subst (λ is. AreExcused 1 is js) (sym (one_of_one p)) (subst (AreExcused 1 second_left) (sym (one_of_one q)) (inr (at_zero _ refl)))

first_with_both : EachTwo 1 (first_left ∷ []) (second_left ∷ third_left ∷ [])
first_with_both is js p q = subst (λ is. AreExcused 1 is js) (sym (one_of_one p)) (elim (one_of_two q) [
  | inl e ↦ subst (AreExcused 1 first_left) (sym e) (inr (at_zero _ refl))
  | inr e ↦ subst (AreExcused 1 first_left) (sym e) (inr (at_zero _ refl))
])

pub pairs_share : PairsShare
unfolding computing
pairs_share = (
  refl,
  (
    (omega arith, at_zero _ (0, omega arith, 0, refl)),
    ((omega arith, at_zero _ (0, omega arith, 0, refl)), (omega arith, at_zero _ (1, omega arith, 0, refl)), second_with_third),
    first_with_both,
  ),
)

pub none_pairs : NonePairs
unfolding computing
none_pairs h = elim (h.1.2 (bare 0 ∷ computed ∷ []) (computed ∷ bare 0 ∷ []) first first) [ inl e ↦ clash e | inr g ↦ clash (g 0 (omega arith)) ]

pub parts_stand : PartsStand
unfolding computing
parts_stand = (
  (omega arith, λ k l. absurd (omega arith)),
  ((refl, (omega arith, at_zero _ (0, omega arith, 0, refl))), tt, λ is js p q. elim q [ ]),
  λ is js p q. inr (λ k l. absurd (omega arith)),
)

is_variable : Option FlatExpr → Bool
is_variable (Some (Var var place)) = true
is_variable _ = false

not_variable : (j offset : ℕ) → slice_get (signal 0 ∷ num 1 ∷ []) j ≡ Some (Var 0 offset) → ⊥
unfolding computing is_variable
not_variable zero offset e = clash (ap is_variable e)
not_variable (suc zero) offset e = clash (ap is_variable e)
not_variable (suc (suc j)) offset e = clash (ap is_variable e)

pub none_stands : NoneStands
unfolding computing
none_stands h = let v = h.1.1.1 0 (omega arith) in not_variable v.0 v.2 v.3
