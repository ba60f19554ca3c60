-- Why a text is not translated is told at a place within it.
use Rattle.std.proofs.Common.{◌≡◌, ◌≤◌, ℕ, List, [], ◌∷◌, ◌++◌, length, Option, Some, None, refl, sym, subst, arith}
use Rattle.std.specs.List.{AllByRecursion}
use Rattle.law_lists.proofs.Options.{some_is}
use Rattle.smv_core.specs.Notation.{Tokens}
use Rattle.smv_parse.specs.Laws.{IsWithin}
use Rattle.smv_parse.specs.Spelling as form
use Rattle.law_formulas.specs.Formulas.{Formula}
use Rattle.law_formulas.specs.Ninths.{nexts, after_eight, or_later, first_ninth}
use Rattle.law_translated_texts.specs.Answers.{levels, too_long, of_bytes, unexpected, too_deep, too_many, too_long_translated}
use Rattle.law_formula_places.specs.Laws.{RefusalsAreWithin}
use Rattle.law_formula_places.proofs.Standing.{Stands, FormulasStand}
use Rattle.law_formula_places.proofs.Tokens.{tokens-stand, spelled-stands, rest-stands}

-- ---- the ninth X

ninth-stands : (n : ℕ) (ats : List ℕ) (at : ℕ) → AllByRecursion (λ (k : ℕ). k ≤ n) ats → after_eight ats ≡ Some at → at ≤ n
ninth-stands n [] at h e = absurd (cc (e))
ninth-stands n (a ∷ []) at h e = absurd (cc (e))
ninth-stands n (a ∷ b ∷ []) at h e = absurd (cc (e))
ninth-stands n (a ∷ b ∷ c ∷ []) at h e = absurd (cc (e))
ninth-stands n (a ∷ b ∷ c ∷ d ∷ []) at h e = absurd (cc (e))
ninth-stands n (a ∷ b ∷ c ∷ d ∷ f ∷ []) at h e = absurd (cc (e))
ninth-stands n (a ∷ b ∷ c ∷ d ∷ f ∷ g ∷ []) at h e = absurd (cc (e))
ninth-stands n (a ∷ b ∷ c ∷ d ∷ f ∷ g ∷ i ∷ []) at h e = absurd (cc (e))
ninth-stands n (a ∷ b ∷ c ∷ d ∷ f ∷ g ∷ i ∷ j ∷ []) at h e = absurd (cc (e))
ninth-stands n (a ∷ b ∷ c ∷ d ∷ f ∷ g ∷ i ∷ j ∷ ninth ∷ more) at h e = subst (λ k. k ≤ n) (some_is e) h.1.1.1.1.1.1.1.1.0

first-stands : (n : ℕ) (formulas : List (ℕ × Formula)) (at : ℕ) → FormulasStand n formulas → first_ninth formulas ≡ Some at → at ≤ n
first-stands n [] at h e = absurd (cc (e))
first-stands n ((place, f) ∷ more) at h e = by_first (after_eight (nexts f)) refl e (first-stands n more at h.1)
  where
    by_first : (o : Option ℕ) → after_eight (nexts f) ≡ o → or_later o (first_ninth more) ≡ Some at → (first_ninth more ≡ Some at → at ≤ n) → at ≤ n
    by_first (Some k) q e later = subst (λ j. j ≤ n) (some_is e) (ninth-stands n (nexts f) k h.0 q)
    by_first None q e later = later e

-- ---- all reasons

split-stands : (text : List ℕ) (ts front rest : Tokens) → Stands (length text) ts → ts ≡ front ++ rest → Stands (length text) (front ++ rest)
split-stands text ts front rest h e = subst (Stands (length text)) e h

pub refused-within : IsWithin → RefusalsAreWithin
refused-within within text _ _ (too_long long) = omega arith
refused-within within text number at (of_bytes short bad) = (within text number at (form.of_bytes bad)).2
refused-within within text _ at (unexpected {ts = ts} short read bad) =
    subst (λ k. k ≤ length text) (sym bad.place) (rest-stands (length text) bad.front bad.rest (split-stands text ts bad.front bad.rest (tokens-stand text ts read) bad.split))
refused-within within text _ at (too_deep {ts = ts} short read bad) =
    subst (λ k. k ≤ length text) (sym bad.place) (rest-stands (length text) bad.front (bad.token ∷ bad.rest) (split-stands text ts bad.front (bad.token ∷ bad.rest) (tokens-stand text ts read) bad.split))
refused-within within text _ at (too_many {ts = ts} {ft = ft} short read spelled ninth) = first-stands (length text) ft.formulas at (spelled-stands levels text ts ft read spelled).1 ninth
refused-within within text _ _ (too_long_translated readable long) = omega arith
