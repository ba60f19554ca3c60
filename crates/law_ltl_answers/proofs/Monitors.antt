-- Formulas of which none has a ninth X have at most nine monitors each.
use Rattle.std.proofs.Common.{◌≡◌, ◌≤◌, ◌+◌, ◌*◌, ℕ, List, [], ◌∷◌, length, Option, Some, None, refl, arith}
use Rattle.law_formulas.specs.Formulas.{Formula, now, next, when, weak}
use Rattle.law_formulas.specs.Steps.{places_of}
use Rattle.law_formulas.specs.Monitors.{monitors_of}
use Rattle.law_formulas.specs.Ninths.{nexts, after_eight, or_later, first_ninth}

-- one for each X, and one more at most
one-each : (f : Formula) → places_of f ≤ length (nexts f) + 1
one-each (now e) = omega arith
one-each (next at f) = let r = one-each f in omega (arith, r)
one-each (when c f) = one-each f
one-each (weak p q) = omega arith

at-most-eight : (ats : List ℕ) → after_eight ats ≡ None → length ats ≤ 8
at-most-eight [] e = omega arith
at-most-eight (a ∷ []) e = omega arith
at-most-eight (a ∷ b ∷ []) e = omega arith
at-most-eight (a ∷ b ∷ c ∷ []) e = omega arith
at-most-eight (a ∷ b ∷ c ∷ d ∷ []) e = omega arith
at-most-eight (a ∷ b ∷ c ∷ d ∷ f ∷ []) e = omega arith
at-most-eight (a ∷ b ∷ c ∷ d ∷ f ∷ g ∷ []) e = omega arith
at-most-eight (a ∷ b ∷ c ∷ d ∷ f ∷ g ∷ h ∷ []) e = omega arith
at-most-eight (a ∷ b ∷ c ∷ d ∷ f ∷ g ∷ h ∷ i ∷ []) e = omega arith
at-most-eight (a ∷ b ∷ c ∷ d ∷ f ∷ g ∷ h ∷ i ∷ ninth ∷ more) e = absurd (cc (e))

neither : (o later : Option ℕ) → or_later o later ≡ None → (o ≡ None) × (later ≡ None)
neither None later e = (refl, e)
neither (Some at) later e = absurd (cc (e))

pub few-monitors : (formulas : List (ℕ × Formula)) → first_ninth formulas ≡ None → monitors_of formulas ≤ 9 * length formulas
few-monitors [] e = omega arith
few-monitors ((place, f) ∷ more) e =
    let parts = neither (after_eight (nexts f)) (first_ninth more) e in
    let a = one-each f in
    let b = at-most-eight (nexts f) parts.0 in
    let r = few-monitors more parts.1 in
    omega (arith, a, b, r)
