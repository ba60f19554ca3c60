-- What offers give, one after the other.
use Rattle.std.proofs.Common.{◌≡◌, ℕ, List, ◌∷◌, Bool, refl, sym, ap, ◌∙◌, subst}
use Rattle.smv_core.specs.Values.{Truth}
use Rattle.smv_core.specs.FlatMeaning.{Numbered}
use Rattle.law_obligations.specs.May.{seen}
use Rattle.smv_conditions.specs.declared.offers.Offer.{Offer}
use Rattle.smv_conditions.specs.declared.offers.May.{May}
use Rattle.smv_conditions.specs.declared.offers.May.TheVariants.{Values}
use Rattle.smv_conditions.specs.declared.chances.Chances.{Chances}
use Rattle.smv_conditions.specs.Chances.{mix_at}
use Rattle.smv_spots.specs.Spots.{outcome_in}
use Rattle.smv_conditions.specs.Offers.{with_truth, any_offer, offers_mix, may_mix, AreOffersMade}

module _ {S C : Type 0} (n : Numbered) (holds : S → C → (ℕ → Bool) → Bool) (a : ℕ → Bool) where
  one_more : (s : S) (o : Offer C) (os : List (Offer C)) → with_truth (holds s o.when a) (seen (outcome_in n o.outcome)) (offers_mix n holds s a os) ≡ offers_mix n holds s a (o ∷ os)
  unfolding with_truth offers_mix any_offer
  one_more s o os = refl

  pub among_more : (old mid new : S) (o : Offer C) (os all : List (Offer C)) (x z : Chances C) (t : Truth) →
      all ≡ o ∷ os → t ≡ seen (outcome_in n o.outcome) → mix_at holds mid a x ≡ offers_mix n holds old a os → holds mid o.when a ≡ holds old o.when a →
      mix_at holds new a z ≡ with_truth (holds mid o.when a) t (mix_at holds mid a x) → mix_at holds new a z ≡ offers_mix n holds old a all
  among_more old mid new o os all x z t whole kind rest kept made =
      made ∙ (ap (λ b. with_truth b t (mix_at holds mid a x)) kept ∙ (ap (λ k. with_truth (holds old o.when a) k (mix_at holds mid a x)) kind ∙ (ap (λ m. with_truth (holds old o.when a) (seen (outcome_in n o.outcome)) m) rest ∙ (one_more old o os ∙ ap (offers_mix n holds old a) (sym whole)))))

  pub among_held : (old new : S) (m : May C) (offers shown : List (Offer C)) (z : Chances C) →
      m ≡ Values offers → shown ≡ offers → mix_at holds new a z ≡ offers_mix n holds old a shown → mix_at holds new a z ≡ may_mix n holds old a m
  unfolding may_mix
  among_held old new m offers shown z is value made = made ∙ (ap (offers_mix n holds old a) value ∙ ap (may_mix n holds old a) (sym is))

pub first_made : {C : Type 0} (IsMade : C → Type 0) (o : Offer C) (os all : List (Offer C)) → all ≡ o ∷ os → AreOffersMade IsMade all → IsMade o.when
first_made IsMade o os all e h = let k = subst (AreOffersMade IsMade) e h in k.0
