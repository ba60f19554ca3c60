-- Gists that are left out where nothing alone is possible.
use Rattle.std.specs.Prelude.{ℕ, List, [], ◌∷◌, Option, Some, None, Bool}
use Rattle.law_obligations.specs.Gist.{Gist, nothing_alone}
use Rattle.smv_conditions.specs.declared.gists.Gists.{Gists}
use Rattle.smv_conditions.specs.Gists.{gist_at}

-- what is there of one that may be left out
abbrev pub listed : {X : Type 0} → Option X → List X
listed None = []
listed (Some x) = x ∷ []

-- a gist, or nothing alone where it is left out
abbrev pub gist_or_nothing : {S C : Type 0} → (S → C → (ℕ → Bool) → Bool) → S → (ℕ → Bool) → Option (Gists C) → Gist
gist_or_nothing holds s a None = nothing_alone
gist_or_nothing holds s a (Some g) = gist_at holds s a g
