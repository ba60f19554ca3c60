-- The worked texts, by computing.
use Rattle.law_formulas.specs.Formulas.{At}
use Rattle.std.proofs.Common.{◌≡◌, ◌≤◌, ℕ, zero, suc, [], ◌∷◌, Some, inl, inr, refl, arith}
use Rattle.smv_core.specs.Values.{number}
use Rattle.law_places.proofs.Computing.{computing}
use Rattle.law_formulas.specs.Worked.{num, all_of, nothing_bound, TogglesAreTranslated, TogglesHold, CellsAreTranslated, MonitorsAreNotUnique, NinthsAreFound}

pub toggles-translated : TogglesAreTranslated
unfolding computing
toggles-translated = (refl, refl, refl, refl)

module _ {X : Type 0} where
  zero≢one : Some (number 0) ≡ Some (number 1) → X
  zero≢one h = cc

  one≢zero : Some (number 1) ≡ Some (number 0) → X
  one≢zero h = cc

-- 0 holds nowhere
weak-fails : (v : ℕ) → v ≤ 0 → At nothing_bound [] (num 0) (all_of 0 ∷ all_of 1 ∷ all_of 0 ∷ []) v → ⊥
weak-fails zero l e = zero≢one e
weak-fails (suc v) l e = omega (arith, l)

pub toggles-hold : TogglesHold
unfolding computing
toggles-hold = (
  (inl refl, (inr refl, (inl refl, tt))),
  λ h. elim h.1.0 as (λ o. ⊥) [ inl e ↦ one≢zero e | inr e ↦ zero≢one e ],
  λ h. elim (h.0 0 (omega arith)) as (λ o. ⊥) [ inl e ↦ zero≢one e | inr k ↦ weak-fails k.0 k.1 k.2 ],
  (inl refl, (inr tt, (inl refl, tt))),
)

pub cells-translated : CellsAreTranslated
unfolding computing
cells-translated = refl

pub monitors-not_unique : MonitorsAreNotUnique
unfolding computing
monitors-not_unique = (refl, refl, refl)

pub ninths-found : NinthsAreFound
ninths-found = (refl, refl, refl)
