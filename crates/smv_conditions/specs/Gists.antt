-- What three conditions say of the possible results of a definition at an assignment.
use Rattle.std.specs.Prelude.{ℕ, Bool}
use Rattle.smv_conditions.specs.declared.gists.Gists.{Gists}
use Rattle.law_obligations.specs.Gist.{Gist}

pub record AreGistsMade {C : Type 0} (IsMade : C → Type 0) (g : Gists C) : Type 0 where
  pub nothing : IsMade g.nothing
  pub something : IsMade g.something
  pub given : IsMade g.given

unfoldable pub gist_at : {S C : Type 0} → (S → C → (ℕ → Bool) → Bool) → S → (ℕ → Bool) → Gists C → Gist
gist_at holds s a g = record { nothing = holds s g.nothing a; something = holds s g.something a; given = holds s g.given a }
