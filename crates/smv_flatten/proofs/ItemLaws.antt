-- Items of the flattened text.
use Rattle.std.proofs.Common.{◌≡◌, ℕ, zero, suc, ◌+◌, ◌<◌, ◌≤◌, List, [], ◌∷◌, length, get_or, drop, drop-cons, refl, sym, ap, ◌∙◌, arith}
use Rattle.smv_core.specs.Assignments.{Around, any}
use Rattle.smv_core.specs.declared.flat.FlatStmt.{FlatStmt, Forall}
use Rattle.law_designs.specs.Numbers.{Scope, flat_over}
use Rattle.law_designs.specs.Flattening.{params_from, within}
use Rattle.smv_flatten_statements.specs.Around.{around_of}
use Rattle.smv_flatten.specs.declared.leaves.Binder.{Binder}
use Rattle.smv_flatten.specs.Leaves.{binders_of}
use Rattle.smv_flatten.specs.Items.{bound_by}

drop-at : (around : List Binder) (k : ℕ) (b : Binder) → k < length around → b ≡ get_or around k b → drop k around ≡ b ∷ drop (k + 1) around
drop-at around k b lt e = let next : suc k ≡ k + 1 = omega arith in drop-cons around k b lt ∙ ap (λ i. get_or around k b ∷ drop i around) next ∙ ap (λ x. x ∷ drop (k + 1) around) (sym e)

module _ (scope : Scope) where
  pub bound_by-at : (around : List Binder) (k : ℕ) (b : Binder) (act : FlatStmt) → k < length around → b ≡ get_or around k b →
      bound_by scope k (binders_of (drop k around)) act ≡ Forall k (flat_over scope b.over.now) (bound_by scope (k + 1) (binders_of (drop (k + 1) around)) act)
  bound_by-at around k b act lt e = ap (λ l. bound_by scope k (binders_of l) act) (drop-at around k b lt e)

  pub bound_by-end : (around : List Binder) (k : ℕ) (act : FlatStmt) → length around ≤ k → bound_by scope k (binders_of (drop k around)) act ≡ act
  bound_by-end [] zero act h = refl
  bound_by-end [] (suc k) act h = refl
  bound_by-end (b ∷ around) zero act h = absurd (omega arith)
  bound_by-end (b ∷ around) (suc k) act h = let e : drop k around ≡ [] = drop-none around k (omega (arith, h)) in ap (λ l. bound_by scope (suc k) (binders_of l) act) e
    where
      drop-none : (xs : List Binder) (k : ℕ) → length xs ≤ k → drop k xs ≡ []
      drop-none [] zero h = refl
      drop-none [] (suc k) h = refl
      drop-none (x ∷ xs) zero h = absurd (omega (arith, h))
      drop-none (x ∷ xs) (suc k) h = drop-none xs k (omega (arith, h))

  pub params-at : (around : List Binder) (k : ℕ) (b : Binder) → k < length around → b ≡ get_or around k b →
      params_from scope k (binders_of (drop k around)) ≡ record { var = k; over = flat_over scope b.over.now; name = b.word.now.name } ∷ params_from scope (k + 1) (binders_of (drop (k + 1) around))
  params-at around k b lt e = ap (λ l. params_from scope k (binders_of l)) (drop-at around k b lt e)

pub within-at : (vars : Around) (around : List Binder) (k : ℕ) (b : Binder) → k < length around → b ≡ get_or around k b → within vars (binders_of (drop k around)) ≡ within ((b.word.now.name, any) ∷ vars) (binders_of (drop (k + 1) around))
within-at vars around k b lt e = ap (λ l. within vars (binders_of l)) (drop-at around k b lt e)

pub around-none : around_of [] ≡ []
unfolding around_of
around-none = refl

pub ruleset binders = (around-none, bound_by-at, bound_by-end, params-at, within-at)
