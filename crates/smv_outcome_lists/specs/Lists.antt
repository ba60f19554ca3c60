-- What stands right of `in`: outcomes of each of several members.
use Rattle.std.specs.Prelude.{ℕ, List, [], ◌∷◌, map, Bool}
use Rattle.smv_core.specs.FlatMeaning.{Numbered}
use Rattle.smv_core.specs.declared.tree.Op.TheVariants.{Equal}
use Rattle.law_obligations.specs.Places.{AbsOutcome}
use Rattle.smv_conditions.specs.declared.offers.Offer.{Offer}
use Rattle.smv_conditions.specs.Offers.{any_offer, AreOffersMade}
use Rattle.law_obligations.specs.Mix.{Mix, or_all}
use Rattle.smv_outcome_lists.specs.Pairs.{compare_each}

abbrev pub AreListsMade : {C : Type 0} → (C → Type 0) → List (List (Offer C)) → Type 0
AreListsMade IsMade [] = Unit {0}
AreListsMade IsMade (us ∷ uss) = AreOffersMade IsMade us × AreListsMade IsMade uss

module _ {S C : Type 0} (n : Numbered) (holds : S → C → (ℕ → Bool) → Bool) (s : S) (a : ℕ → Bool) where
  -- whether an outcome is equal to some member
  unfoldable pub member_at : AbsOutcome → List (List (Offer C)) → Mix
  member_at u vss = or_all (map (compare_each n holds s a Equal u) vss)

  -- and whether one of these is, which is chosen once for all members
  unfoldable pub within_at : List (Offer C) → List (List (Offer C)) → Mix
  within_at us vss = record { no = any_offer n holds s a (λ u. (member_at u vss).no) us; yes = any_offer n holds s a (λ u. (member_at u vss).yes) us; neither = any_offer n holds s a (λ u. (member_at u vss).neither) us }
