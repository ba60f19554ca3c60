-- What outcomes with conditions offer at an assignment.
use Rattle.std.specs.Prelude.{◌≡◌, ℕ, List, [], ◌∷◌, Bool, ◌&&◌, ◌||◌}
use Rattle.std.specs.List.{list_any}
use Rattle.smv_core.specs.Values.{Truth}
use Rattle.smv_core.specs.FlatMeaning.{Numbered}
use Rattle.smv_core.specs.Outcome.{is_true}
use Rattle.law_obligations.specs.Places.{AbsOutcome}
use Rattle.law_obligations.specs.May.{seen}
use Rattle.law_obligations.specs.Right.{is_false, is_neither}
use Rattle.smv_spots.specs.Spots.{outcome_in}
use Rattle.smv_conditions.specs.declared.offers.Offer.{Offer}
use Rattle.smv_conditions.specs.declared.offers.May.{May}
use Rattle.smv_conditions.specs.declared.offers.May.TheVariants.{Truths, Values}
use Rattle.smv_conditions.specs.Chances.{AreMade, mix_at}
use Rattle.law_obligations.specs.Mix.{Mix, shown_of}

-- one more truth value, where a condition holds
unfoldable pub with_truth : Bool → Truth → Mix → Mix
with_truth when t m = record { no = (when && is_false t) || m.no; yes = (when && is_true t) || m.yes; neither = (when && is_neither t) || m.neither }

module _ {S C : Type 0} (n : Numbered) (holds : S → C → (ℕ → Bool) → Bool) (s : S) (a : ℕ → Bool) where
  -- some outcome that is possible passes the test
  unfoldable pub any_offer : (AbsOutcome → Bool) → List (Offer C) → Bool
  any_offer p offers = list_any (λ o. holds s o.when a && p (outcome_in n o.outcome)) offers

  -- which truth values are possible
  unfoldable pub offers_mix : List (Offer C) → Mix
  offers_mix os = record { no = any_offer (λ u. is_false (seen u)) os; yes = any_offer (λ u. is_true (seen u)) os; neither = any_offer (λ u. is_neither (seen u)) os }

  unfoldable pub may_mix : May C → Mix
  may_mix (Truths x) = mix_at holds s a x
  may_mix (Values os) = offers_mix os

  unfoldable pub any_may : (AbsOutcome → Bool) → May C → Bool
  any_may p (Truths x) = list_any p (shown_of (mix_at holds s a x))
  any_may p (Values offers) = any_offer p offers

  -- what is possible is exactly this: each test finds the same
  unfoldable pub Offers : May C → List AbsOutcome → Type 0
  Offers m us = (p : AbsOutcome → Bool) → any_may p m ≡ list_any p us

abbrev pub AreOffersMade : {C : Type 0} → (C → Type 0) → List (Offer C) → Type 0
AreOffersMade IsMade [] = Unit {0}
AreOffersMade IsMade (o ∷ os) = IsMade o.when × AreOffersMade IsMade os

abbrev pub IsMayMade : {C : Type 0} → (C → Type 0) → May C → Type 0
IsMayMade IsMade (Truths x) = AreMade IsMade x
IsMayMade IsMade (Values offers) = AreOffersMade IsMade offers
