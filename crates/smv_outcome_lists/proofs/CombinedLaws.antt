-- Chains of additions.
use Rattle.std.proofs.Common.{◌≡◌, ℕ, List, [], ◌∷◌, map, length, Bool, sym, ap, ◌∙◌, arith}
use Rattle.smv_conditions.specs.declared.chances.Chances.{Chances}
use Rattle.smv_conditions.specs.Keep.{KeepsConditions}
use Rattle.smv_conditions.specs.Chances.{mix_at, AreMade}
use Rattle.law_obligations.specs.Mix.{and_mix, or_mix, and_all, or_all, or_none, or_zero, all_mix, any_mix}
use Rattle.smv_conditions.specs.Chain.{AllMade}
use Rattle.smv_conditions.proofs.ChainLaws.{mix_kept, mixes_kept}
use Rattle.law_obligations.specs.Combined.{union_mix, unions}

module _ {S C : Type 0} (holds : S → C → (ℕ → Bool) → Bool) (a : ℕ → Bool) where
  pub no_union : (s t : S) (z : Chances C) (each : List (Chances C)) → length each ≡ 0 → mix_at holds t a z ≡ unions [] → mix_at holds t a z ≡ unions (map (mix_at holds s a) each)
  no_union s t z [] e h = h
  no_union s t z (x ∷ xs) e h = absurd (omega arith)

module _ {S C : Type 0} (IsMade : S → C → Type 0) (holds : S → C → (ℕ → Bool) → Bool) (room : S → ℕ) (a : ℕ → Bool) where
  pub one_union : (s mid t : S) (x y z : Chances C) (xs each : List (Chances C)) → each ≡ x ∷ xs → KeepsConditions IsMade holds room s mid → AllMade (IsMade s) each → mix_at holds mid a y ≡ unions (map (mix_at holds s a) xs) →
      mix_at holds t a z ≡ union_mix (mix_at holds mid a x) (mix_at holds mid a y) → mix_at holds t a z ≡ unions (map (mix_at holds s a) each)
  one_union s mid t x y z xs [] e k m h made = absurd (cc)
  one_union s mid t x y z xs (w ∷ ws) e k m h made =
      let same : w ≡ x = (cc) in
      let rest : ws ≡ xs = (cc) in
      made
      ∙ (ap (union_mix (mix_at holds mid a x)) h
      ∙ (ap (λ (c : Chances C). union_mix (mix_at holds mid a c) (unions (map (mix_at holds s a) xs))) (sym same)
      ∙ (ap (λ m. union_mix m (unions (map (mix_at holds s a) xs))) (mix_kept IsMade holds room a s mid w k m.0)
      ∙ ap (λ (l : List (Chances C)). union_mix (mix_at holds s a w) (unions (map (mix_at holds s a) l))) (sym rest))))

pub chances_kept : {S C : Type 0} (IsMade : S → C → Type 0) (holds : S → C → (ℕ → Bool) → Bool) (room : S → ℕ) (s t : S) (xs : List (Chances C)) → KeepsConditions IsMade holds room s t → AllMade (IsMade s) xs → AllMade (IsMade t) xs
chances_kept IsMade holds room s t [] k m = tt
chances_kept IsMade holds room s t (x ∷ xs) k m = (record { no = k.made x.no m.0.no; yes = k.made x.yes m.0.yes; neither = k.made x.neither m.0.neither }, chances_kept IsMade holds room s t xs k m.1)

-- quantifiers
module _ {S C : Type 0} (IsMade : S → C → Type 0) (holds : S → C → (ℕ → Bool) → Bool) (room : S → ℕ) (a : ℕ → Bool) where
  pub all_joined : (s s1 s2 t : S) (x y y' z : Chances C) (named rests : List (Chances C)) → KeepsConditions IsMade holds room s s1 → KeepsConditions IsMade holds room s1 s2 → AllMade (IsMade s) named → AreMade (IsMade s1) y' →
      mix_at holds s1 a y ≡ unions (map (mix_at holds s a) rests) → mix_at holds s1 a y' ≡ or_none (mix_at holds s1 a y) → mix_at holds s2 a x ≡ and_all (map (mix_at holds s1 a) named) → mix_at holds t a z ≡ and_mix (mix_at holds s2 a x) (mix_at holds s2 a y') →
      mix_at holds t a z ≡ all_mix (map (mix_at holds s a) named) (unions (map (mix_at holds s a) rests))
  all_joined s s1 s2 t x y y' z named rests k l m my rest opt first made =
      made
      ∙ (ap (λ n. and_mix n (mix_at holds s2 a y')) (first ∙ ap and_all (mixes_kept IsMade holds room a s s1 named k m))
      ∙ ap (and_mix (and_all (map (mix_at holds s a) named))) (mix_kept IsMade holds room a s1 s2 y' l my ∙ (opt ∙ ap or_none rest)))

  pub any_joined : (s s1 s2 t : S) (x y y' z : Chances C) (named rests : List (Chances C)) → KeepsConditions IsMade holds room s s1 → KeepsConditions IsMade holds room s1 s2 → AllMade (IsMade s) named → AreMade (IsMade s1) y' →
      mix_at holds s1 a y ≡ unions (map (mix_at holds s a) rests) → mix_at holds s1 a y' ≡ or_zero (mix_at holds s1 a y) → mix_at holds s2 a x ≡ or_all (map (mix_at holds s1 a) named) → mix_at holds t a z ≡ or_mix (mix_at holds s2 a x) (mix_at holds s2 a y') →
      mix_at holds t a z ≡ any_mix (map (mix_at holds s a) named) (unions (map (mix_at holds s a) rests))
  any_joined s s1 s2 t x y y' z named rests k l m my rest opt first made =
      made
      ∙ (ap (λ n. or_mix n (mix_at holds s2 a y')) (first ∙ ap or_all (mixes_kept IsMade holds room a s s1 named k m))
      ∙ ap (or_mix (or_all (map (mix_at holds s a) named))) (mix_kept IsMade holds room a s1 s2 y' l my ∙ (opt ∙ ap or_zero rest)))
