-- What outcomes with conditions give a target, and when two of them differ.
use Rattle.std.specs.Prelude.{ℕ, List, Bool, not}
use Rattle.smv_core.specs.FlatMeaning.{Numbered}
use Rattle.law_obligations.specs.Places.{AbsOutcome}
use Rattle.law_obligations.specs.Right.{same_outcome}
use Rattle.smv_conditions.specs.declared.offers.Offer.{Offer}
use Rattle.smv_conditions.specs.Offers.{any_offer}
use Rattle.smv_targets.specs.declared.targets.Target.{Target}
use Rattle.smv_targets.specs.declared.targets.Sense.{Sense}
use Rattle.smv_targets.specs.Targets.{given_at}

-- the test of an outcome that a target makes
unfoldable pub given_test : {S C : Type 0} → (S → C → (ℕ → Bool) → Bool) → S → (ℕ → Bool) → Numbered → Target C → Sense → AbsOutcome → Bool
given_test holds s a n t sense u = holds s (given_at n t sense u) a

-- an outcome is not this one, and one that is possible is not it
unfoldable pub differs_from : AbsOutcome → AbsOutcome → Bool
differs_from u v = not (same_outcome u v)

unfoldable pub differs_in : {S C : Type 0} → Numbered → (S → C → (ℕ → Bool) → Bool) → S → (ℕ → Bool) → List (Offer C) → AbsOutcome → Bool
differs_in n holds s a offers u = any_offer n holds s a (differs_from u) offers

-- two that are possible are not the same
unfoldable pub two_differ : {S C : Type 0} → Numbered → (S → C → (ℕ → Bool) → Bool) → S → (ℕ → Bool) → List (Offer C) → Bool
two_differ n holds s a offers = any_offer n holds s a (differs_in n holds s a offers) offers
