-- What three conditions say of a truth value at an assignment.
use Rattle.std.specs.Prelude.{ℕ, Bool}
use Rattle.smv_conditions.specs.declared.chances.Chances.{Chances}
use Rattle.law_obligations.specs.Mix.{Mix}

pub record AreMade {C : Type 0} (IsMade : C → Type 0) (x : Chances C) : Type 0 where
  pub no : IsMade x.no
  pub yes : IsMade x.yes
  pub neither : IsMade x.neither

-- which truth values are possible at an assignment, by what conditions mean where they live
unfoldable pub mix_at : {S C : Type 0} → (S → C → (ℕ → Bool) → Bool) → S → (ℕ → Bool) → Chances C → Mix
mix_at holds s a x = record { no = holds s x.no a; yes = holds s x.yes a; neither = holds s x.neither a }
