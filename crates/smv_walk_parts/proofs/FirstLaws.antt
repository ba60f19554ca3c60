-- The first result of several parts.
use Rattle.std.proofs.Common.{◌≡◌, ℕ, List, [], ◌∷◌, map, length, Bool, sym, ap, ◌∙◌, arith, subst}
use Rattle.law_obligations.specs.Gist.{first_gist, first_all}
use Rattle.law_obligations.proofs.WalkLaws.{same_gist}
use Rattle.smv_conditions.specs.declared.gists.Gists.{Gists}
use Rattle.smv_conditions.specs.Keep.{KeepsConditions}
use Rattle.smv_conditions.specs.Gists.{AreGistsMade, gist_at}
use Rattle.smv_walk_parts.specs.Parts.{AllGistsMade}

module _ {S C : Type 0} (holds : S → C → (ℕ → Bool) → Bool) (a : ℕ → Bool) where
  pub no_first : (s t : S) (z : Gists C) (each : List (Gists C)) → length each ≡ 0 → gist_at holds t a z ≡ first_all [] → gist_at holds t a z ≡ first_all (map (gist_at holds s a) each)
  no_first s t z [] e h = h
  no_first s t z (x ∷ xs) e h = absurd (omega arith)

module _ {S C : Type 0} (IsMade : S → C → Type 0) (holds : S → C → (ℕ → Bool) → Bool) (room : S → ℕ) (a : ℕ → Bool) where
  pub gist_kept : (s t : S) (g : Gists C) → KeepsConditions IsMade holds room s t → AreGistsMade (IsMade s) g → gist_at holds t a g ≡ gist_at holds s a g
  unfolding gist_at
  gist_kept s t g k m = same_gist (k.same g.nothing m.nothing a) (k.same g.something m.something a) (k.same g.given m.given a)

  pub one_first : (s mid t : S) (g h z : Gists C) (gs each : List (Gists C)) → each ≡ g ∷ gs → KeepsConditions IsMade holds room s mid → AllGistsMade (IsMade s) each → gist_at holds mid a h ≡ first_all (map (gist_at holds s a) gs) →
      gist_at holds t a z ≡ first_gist (gist_at holds mid a g) (gist_at holds mid a h) → gist_at holds t a z ≡ first_all (map (gist_at holds s a) each)
  one_first s mid t g h z gs each e k m rest made =
      let made_all : AllGistsMade (IsMade s) (g ∷ gs) = subst (AllGistsMade (IsMade s)) e m in
      made
      ∙ (ap (first_gist (gist_at holds mid a g)) rest
      ∙ (ap (λ x. first_gist x (first_all (map (gist_at holds s a) gs))) (gist_kept s mid g k made_all.0)
      ∙ ap (λ l. first_all (map (gist_at holds s a) l)) (sym e)))

pub gists_kept : {S C : Type 0} (IsMade : S → C → Type 0) (holds : S → C → (ℕ → Bool) → Bool) (room : S → ℕ) (s t : S) (g : Gists C) → KeepsConditions IsMade holds room s t → AreGistsMade (IsMade s) g → AreGistsMade (IsMade t) g
gists_kept IsMade holds room s t g k m = record { nothing = k.made g.nothing m.nothing; something = k.made g.something m.something; given = k.made g.given m.given }

pub others_made : {C : Type 0} (IsMade : C → Type 0) (g : Gists C) (gs each : List (Gists C)) → each ≡ g ∷ gs → AllGistsMade IsMade each → AllGistsMade IsMade gs
others_made IsMade g gs each e m = let k = subst (AllGistsMade IsMade) e m in k.1
