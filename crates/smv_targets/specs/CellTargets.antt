-- The targets that elements have by their cells.
use Rattle.std.specs.Prelude.{◌≡◌, ℕ, List, [], ◌∷◌, map, slice_get, Some, None, Bool, true, false}
use Rattle.smv_core.specs.FlatMeaning.{Numbered}
use Rattle.law_obligations.specs.Places.{Place, same_place, is_among, AbsOutcome}
use Rattle.law_obligations.specs.Demands.{places_of_family}
use Rattle.smv_spots.specs.declared.spots.Spot.{Spot}
use Rattle.smv_spots.specs.Spots.{place_in}
use Rattle.smv_conditions.specs.declared.offers.Offer.{Offer}
use Rattle.smv_conditions.specs.Offers.{any_offer}
use Rattle.smv_cells.specs.Seen.{View}
use Rattle.smv_targets.specs.declared.targets.At.{At}
use Rattle.smv_targets.specs.Targets.{Aim}

-- an outcome is at this place
abbrev pub is_at : Place → AbsOutcome → Bool
is_at q (Some p) = same_place q p
is_at q None = false

abbrev pub spots_of : {C : Type 0} → List (At C) → List Spot
spots_of table = map (λ (x : At _). x.spot) table

-- each condition of a table holds later where one of these outcomes is at its place
abbrev pub AreHeld : {S C : Type 0} → Numbered → (S → C → (ℕ → Bool) → Bool) → S → S → List (Offer C) → List (At C) → Type 0
AreHeld n holds start s offers [] = Unit {0}
AreHeld n holds start s offers (x ∷ xs) = ((a : ℕ → Bool) → holds s x.when a ≡ any_offer n holds start a (is_at (place_in n x.spot)) offers) × AreHeld n holds start s offers xs

-- an element of a view that is kept, with values of its type
pub record IsElementOf (v : View) (family : ℕ) (ps : List Place) : Type 0 where
  pub kept : v.kept family ps ≡ true
  pub of_type : (a : ℕ → Bool) → is_among (places_of_family v.world v.kept (slice_get v.world.classes.families family)) (v.state a family ps) ≡ true

-- an element with its value in a view
abbrev pub aim_of : View → ℕ → List Place → Aim
aim_of v family ps = record { view = v; indexes = ps; every = places_of_family v.world v.kept (slice_get v.world.classes.families family); value = λ a. v.state a family ps }
