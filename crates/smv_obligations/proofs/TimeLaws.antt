-- The time of a family's definition, pick by pick.
use Rattle.std.proofs.Common.{◌≡◌, ◌≢◌, ℕ, zero, suc, ◌+◌, ◌<◌, ◌≤◌, List, [], ◌∷◌, length, drop, get_or, Bool, if◌then◌else◌, refl, sym, ap, ◌∙◌, arith}
use Rattle.std.specs.Prelude.{nat_eq}
use Rattle.law_lists.proofs.Numbers.{nat_eq-apart}
use Rattle.smv_core.specs.declared.flat.Pick.{Pick}
use Rattle.smv_core.specs.declared.flat.Timing.{Timing}
use Rattle.smv_core.specs.declared.flat.Timing.TheVariants.{Now}
use Rattle.law_obligations.specs.Problems.{family_time}

one-turn : (picks : List Pick) (times : List Timing) (family k : ℕ) (p : Pick) (t : Timing) → k < length picks → k < length times →
    family_time (drop k picks) (drop k times) family ≡ (if nat_eq (get_or picks k p).family family then get_or times k Now else family_time (drop (suc k) picks) (drop (suc k) times) family)
one-turn [] times family k p t l m = absurd (omega arith)
one-turn (q ∷ picks) [] family k p t l m = absurd (omega arith)
one-turn (q ∷ picks) (u ∷ times) family zero p t l m = refl
one-turn (q ∷ picks) (u ∷ times) family (suc k) p t l m = one-turn picks times family k p t (omega arith) (omega arith)

module _ (picks : List Pick) (times : List Timing) (family k : ℕ) where
  pub further : (p : Pick) (whole : Timing) → k < length picks → k < length times → (get_or picks k p).family ≢ family → family_time (drop k picks) (drop k times) family ≡ whole →
      family_time (drop (k + 1) picks) (drop (k + 1) times) family ≡ whole
  further p whole l m e h =
      let next : k + 1 ≡ suc k = omega arith in
      ap (λ (n : ℕ). family_time (drop n picks) (drop n times) family) next
      ∙ (sym (one-turn picks times family k p Now l m ∙ ap (λ (b : Bool). if b then get_or times k Now else family_time (drop (suc k) picks) (drop (suc k) times) family) (nat_eq-apart (get_or picks k p).family family e)) ∙ h)

no-picks : (picks : List Pick) (times : List Timing) (family k : ℕ) → length picks ≤ k → family_time (drop k picks) (drop k times) family ≡ Now
no-picks [] times family zero l = refl
no-picks [] times family (suc k) l = refl
no-picks (p ∷ picks) times family zero l = absurd (omega arith)
no-picks (p ∷ picks) [] family (suc k) l = none (drop k picks)
  where
    none : (qs : List Pick) → family_time qs [] family ≡ Now
    none [] = refl
    none (q ∷ qs) = refl
no-picks (p ∷ picks) (t ∷ times) family (suc k) l = no-picks picks times family k (omega arith)

no-times : (picks : List Pick) (times : List Timing) (family k : ℕ) → length times ≤ k → family_time (drop k picks) (drop k times) family ≡ Now
no-times picks [] family k l = none (drop k picks) k
  where
    none : (qs : List Pick) (j : ℕ) → family_time qs (drop j []) family ≡ Now
    none [] j = refl
    none (q ∷ qs) zero = refl
    none (q ∷ qs) (suc j) = refl
no-times picks (t ∷ times) family zero l = absurd (omega arith)
no-times [] (t ∷ times) family (suc k) l = refl
no-times (p ∷ picks) (t ∷ times) family (suc k) l = no-times picks times family k (omega arith)

pub over-picks : (picks : List Pick) (times : List Timing) (family k : ℕ) (whole : Timing) → length picks ≤ k → family_time (drop k picks) (drop k times) family ≡ whole → Now ≡ whole
over-picks picks times family k whole l h = sym (no-picks picks times family k l) ∙ h

pub over-times : (picks : List Pick) (times : List Timing) (family k : ℕ) (whole : Timing) → length times ≤ k → family_time (drop k picks) (drop k times) family ≡ whole → Now ≡ whole
over-times picks times family k whole l h = sym (no-times picks times family k l) ∙ h
