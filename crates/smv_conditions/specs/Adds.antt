-- What is added to a list of outcomes.
use Rattle.std.specs.Prelude.{◌≡◌, ℕ, List, [], ◌∷◌, Some, None, Bool, ◌&&◌, ◌||◌}
use Rattle.smv_core.specs.FlatMeaning.{Numbered}
use Rattle.law_obligations.specs.Places.{AbsOutcome}
use Rattle.smv_conditions.specs.declared.offers.Offer.{Offer}
use Rattle.smv_spots.specs.declared.spots.Spot.TheVariants as spot
use Rattle.smv_conditions.specs.declared.chances.Chances.{Chances}
use Rattle.smv_conditions.specs.Offers.{any_offer}

-- a test finds what it found before, or, where the condition holds, what it finds in the addition
unfoldable pub Adds : {S C : Type 0} → Numbered → (S → C → (ℕ → Bool) → Bool) → S → S → (ℕ → Bool) → (AbsOutcome → Bool) → List (Offer C) → List (Offer C) → Bool → Bool → Type 0
Adds n holds s t a p old new when more = any_offer n holds t a p new ≡ (any_offer n holds s a p old || (when && more))

-- truth values as outcomes
abbrev pub listed_of : {C : Type 0} → Chances C → List (Offer C)
listed_of x = record { outcome = Some (spot.Number 0); when = x.no } ∷ record { outcome = Some (spot.Number 1); when = x.yes } ∷ record { outcome = None; when = x.neither } ∷ []
