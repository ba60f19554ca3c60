-- What is asked of the indexes of an assignment, and lists of gists.
use Rattle.std.specs.Prelude.{◌≡◌, ℕ, List, [], ◌∷◌, map, zip, Option, Some, None, Bool}
use Rattle.std.specs.List.{list_all}
use Rattle.smv_core.specs.Values.{Truth}
use Rattle.smv_core.specs.Assignments.{Index}
use Rattle.smv_core.specs.FlatMeaning.{Numbered}
use Rattle.smv_core.specs.Outcome.{is_true}
use Rattle.smv_core.specs.declared.flat.DefBody.{DefBody}
use Rattle.smv_core.specs.declared.flat.FlatExpr.{FlatExpr}
use Rattle.law_obligations.specs.Places.{Place, AbsOutcome}
use Rattle.law_obligations.specs.Demands.{fits_place, concerns_place}
use Rattle.law_obligations.specs.Right.{is_false, is_neither}
use Rattle.law_obligations.specs.Mix.{Mix}
use Rattle.law_obligations.specs.Gist.{at_index, is_known, matches_all}
use Rattle.smv_spots.specs.declared.spots.Spot.{Spot}
use Rattle.smv_spots.specs.Spots.{place_in}
use Rattle.smv_conditions.specs.declared.offers.Offer.{Offer}
use Rattle.smv_conditions.specs.declared.chances.Chances.{Chances}
use Rattle.smv_conditions.specs.declared.gists.Gists.{Gists}
use Rattle.smv_conditions.specs.Chances.{mix_at}
use Rattle.smv_conditions.specs.Offers.{any_offer}
use Rattle.smv_conditions.specs.Gists.{AreGistsMade}
use Rattle.smv_cells.specs.Seen.{View, outcomes}

-- an outcome of an index against the element's index, or, where the element has none, whether it is known
unfoldable pub index_test : Numbered → Option Spot → AbsOutcome → Truth
index_test n (Some q) u = at_index (place_in n q) u
index_test n None u = is_known u

-- which truth values that gives of the outcomes that are possible
unfoldable pub index_mix : {S C : Type 0} → Numbered → (S → C → (ℕ → Bool) → Bool) → S → (ℕ → Bool) → Option Spot → List (Offer C) → Mix
index_mix n holds s a index os = record { no = any_offer n holds s a (λ u. is_false (index_test n index u)) os; yes = any_offer n holds s a (λ u. is_true (index_test n index u)) os; neither = any_offer n holds s a (λ u. is_neither (index_test n index u)) os }

-- three conditions say whether an assignment with this left side is to the element of these indexes
unfoldable pub IsMatch : {S C : Type 0} → (S → C → (ℕ → Bool) → Bool) → S → View → List Spot → List FlatExpr → List Spot → Chances C → Type 0
IsMatch holds s v indexes left b x = (a : ℕ → Bool) → mix_at holds s a x ≡ matches_all (map (place_in v.world.classes) indexes) (map (λ e. outcomes v a e b) left)

abbrev pub AllGistsMade : {C : Type 0} → (C → Type 0) → List (Gists C) → Type 0
AllGistsMade IsMade [] = Unit {0}
AllGistsMade IsMade (g ∷ gs) = AreGistsMade IsMade g × AllGistsMade IsMade gs

-- each constant index of an assignment fits the element's
abbrev pub all_fit : List Index → List Place → Bool
all_fit is qs = list_all (λ (i, q). fits_place i q) (zip is qs)

-- some assignment of a part concerns the element of these indexes
unfoldable pub is_concerned : List Place → DefBody → Bool
is_concerned qs part = concerns_place part qs
