-- Additions to lists of outcomes.
use Rattle.std.proofs.Common.{Some, None, ◌≡◌, ℕ, List, [], ◌∷◌, ◌++◌, length, arith, Bool, true, false, ◌&&◌, ◌||◌, refl, sym, ap, ◌∙◌, subst}
use Rattle.smv_core.specs.FlatMeaning.{Numbered}
use Rattle.law_obligations.specs.Places.{AbsOutcome, named}
use Rattle.smv_conditions.specs.declared.offers.Offer.{Offer}
use Rattle.smv_conditions.specs.declared.offers.May.{May}
use Rattle.smv_conditions.specs.declared.offers.May.TheVariants.{Truths, Values}
use Rattle.smv_spots.specs.declared.spots.Spot.TheVariants as spot
use Rattle.smv_conditions.specs.declared.chances.Chances.{Chances}
use Rattle.smv_core.specs.Values.{number}
use Rattle.smv_conditions.specs.Chances.{mix_at}
use Rattle.law_obligations.proofs.MixLaws.{any-shown}
use Rattle.smv_conditions.specs.Keep.{KeepsConditions}
use Rattle.smv_spots.specs.Spots.{outcome_in}
use Rattle.smv_conditions.specs.Offers.{any_offer, any_may, AreOffersMade, IsMayMade}
use Rattle.smv_conditions.specs.Adds.{Adds, listed_of}

module _ {S C : Type 0} (n : Numbered) (IsMade : S → C → Type 0) (holds : S → C → (ℕ → Bool) → Bool) (room : S → ℕ) (a : ℕ → Bool) (p : AbsOutcome → Bool) where
  pub offers_same : (s t : S) (os : List (Offer C)) → KeepsConditions IsMade holds room s t → AreOffersMade (IsMade s) os → any_offer n holds t a p os ≡ any_offer n holds s a p os
  unfolding any_offer
  offers_same s t [] k m = refl
  offers_same s t (o ∷ os) k m = ap (λ b. (b && p (outcome_in n o.outcome)) || any_offer n holds t a p os) (k.same o.when m.0 a) ∙ ap (λ b. (holds s o.when a && p (outcome_in n o.outcome)) || b) (offers_same s t os k m.1)

  both_added : (b w k r : Bool) → ((b || (w && k)) || (w && r)) ≡ (b || (w && (k || r)))
  both_added true w k r = refl
  both_added false true k r = refl
  both_added false false k r = refl

  pub adds_more : (s mid t : S) (out longer longest : List (Offer C)) (when : C) (o : Offer C) (os offers : List (Offer C)) → offers ≡ o ∷ os → KeepsConditions IsMade holds room s mid → IsMade s when → AreOffersMade (IsMade s) offers →
      Adds n holds s mid a p out longer (holds s when a) (holds s o.when a && p (outcome_in n o.outcome)) →
      Adds n holds mid t a p longer longest (holds mid when a) (any_offer n holds mid a p os) →
      Adds n holds s t a p out longest (holds s when a) (any_offer n holds s a p offers)
  unfolding Adds any_offer
  adds_more s mid t out longer longest when o os offers e k w m one rest =
      let m' : AreOffersMade (IsMade s) (o ∷ os) = subst (AreOffersMade (IsMade s)) e m in
      rest
      ∙ (ap (λ b. b || (holds mid when a && any_offer n holds mid a p os)) one
      ∙ (ap (λ b. (any_offer n holds s a p out || (holds s when a && (holds s o.when a && p (outcome_in n o.outcome)))) || (b && any_offer n holds mid a p os)) (k.same when w a)
      ∙ (ap (λ b. (any_offer n holds s a p out || (holds s when a && (holds s o.when a && p (outcome_in n o.outcome)))) || (holds s when a && b)) (offers_same s mid os k m'.1)
      ∙ (both_added (any_offer n holds s a p out) (holds s when a) (holds s o.when a && p (outcome_in n o.outcome)) (any_offer n holds s a p os)
      ∙ ap (λ l. any_offer n holds s a p out || (holds s when a && any_offer n holds s a p l)) (sym e)))))

made_after : {C : Type 0} (IsMade : C → Type 0) (os : List (Offer C)) (o : Offer C) → AreOffersMade IsMade os → IsMade o.when → AreOffersMade IsMade (os ++ o ∷ [])
made_after IsMade [] o h w = (w, tt)
made_after IsMade (x ∷ xs) o h w = (h.0, made_after IsMade xs o h.1 w)

pub made_pushed : {C : Type 0} (IsMade : C → Type 0) (old new : List (Offer C)) (o : Offer C) → new ≡ old ++ o ∷ [] → AreOffersMade IsMade old → IsMade o.when → AreOffersMade IsMade new
made_pushed IsMade old new o e m w = subst (AreOffersMade IsMade) (sym e) (made_after IsMade old o m w)

module _ {S C : Type 0} (n : Numbered) (holds : S → C → (ℕ → Bool) → Bool) (a : ℕ → Bool) (p : AbsOutcome → Bool) where
  nothing_added : (w b : Bool) → b ≡ (b || (w && false))
  nothing_added true true = refl
  nothing_added true false = refl
  nothing_added false true = refl
  nothing_added false false = refl

  pub adds_none : (s : S) (out offers : List (Offer C)) (when : C) → length offers ≡ 0 → Adds n holds s s a p out out (holds s when a) (any_offer n holds s a p offers)
  unfolding Adds any_offer
  adds_none s out [] when e = nothing_added (holds s when a) (any_offer n holds s a p out)
  adds_none s out (o ∷ os) when e = absurd (omega arith)

pub offers_kept : {S C : Type 0} (IsMade : S → C → Type 0) (holds : S → C → (ℕ → Bool) → Bool) (room : S → ℕ) (s t : S) (os : List (Offer C)) → KeepsConditions IsMade holds room s t → AreOffersMade (IsMade s) os → AreOffersMade (IsMade t) os
offers_kept IsMade holds room s t [] k m = tt
offers_kept IsMade holds room s t (o ∷ os) k m = (k.made o.when m.0, offers_kept IsMade holds room s t os k m.1)

pub rest_kept : {S C : Type 0} (IsMade : S → C → Type 0) (holds : S → C → (ℕ → Bool) → Bool) (room : S → ℕ) (s t : S) (o : Offer C) (os offers : List (Offer C)) → offers ≡ o ∷ os → KeepsConditions IsMade holds room s t → AreOffersMade (IsMade s) offers → AreOffersMade (IsMade t) os
rest_kept IsMade holds room s t o os offers e k m = let m' = subst (AreOffersMade (IsMade s)) e m in offers_kept IsMade holds room s t os k m'.1

-- truth values as a list of outcomes
module _ {S C : Type 0} (n : Numbered) (holds : S → C → (ℕ → Bool) → Bool) (a : ℕ → Bool) (p : AbsOutcome → Bool) where
  last : (b : Bool) → (b || false) ≡ b
  last true = refl
  last false = refl

  truths_listed : (s : S) (x : Chances C) → any_offer n holds s a p (record { outcome = Some (spot.Number 0); when = x.no } ∷ record { outcome = Some (spot.Number 1); when = x.yes } ∷ record { outcome = None; when = x.neither } ∷ []) ≡ any_may n holds s a p (Truths x)
  unfolding any_offer any_may mix_at
  truths_listed s x = ap (λ b. (holds s x.no a && p (Some (named (number 0)))) || ((holds s x.yes a && p (Some (named (number 1)))) || b)) (last (holds s x.neither a && p None)) ∙ sym (any-shown p (holds s x.no a) (holds s x.yes a) (holds s x.neither a))

  pub adds_truths : (s t : S) (old new : List (Offer C)) (when : Bool) (x : Chances C) (m : May C) (listed : List (Offer C)) → m ≡ Truths x →
      listed ≡ listed_of x →
      Adds n holds s t a p old new when (any_offer n holds s a p listed) → Adds n holds s t a p old new when (any_may n holds s a p m)
  adds_truths s t old new when x m listed is e h = subst (Adds n holds s t a p old new when) (ap (any_offer n holds s a p) e ∙ (truths_listed s x ∙ ap (any_may n holds s a p) (sym is))) h

  pub adds_values : (s t : S) (old new : List (Offer C)) (when : Bool) (offers shown : List (Offer C)) (m : May C) → m ≡ Values offers → shown ≡ offers →
      Adds n holds s t a p old new when (any_offer n holds s a p shown) → Adds n holds s t a p old new when (any_may n holds s a p m)
  unfolding any_may
  adds_values s t old new when offers shown m is e h = subst (Adds n holds s t a p old new when) (ap (any_offer n holds s a p) e ∙ ap (any_may n holds s a p) (sym is)) h

pub truths_made : {C : Type 0} (IsMade : C → Type 0) (m : May C) (x : Chances C) (shown items : List (Offer C)) → m ≡ Truths x → items ≡ listed_of x → shown ≡ items → IsMayMade IsMade m → AreOffersMade IsMade shown
truths_made IsMade m x shown items is e f h = let k : IsMayMade IsMade (Truths x) = subst (IsMayMade IsMade) is h in subst (AreOffersMade IsMade) (sym (f ∙ e)) (k.no, (k.yes, (k.neither, tt)))

pub values_made : {C : Type 0} (IsMade : C → Type 0) (m : May C) (offers shown : List (Offer C)) → m ≡ Values offers → shown ≡ offers → IsMayMade IsMade m → AreOffersMade IsMade shown
values_made IsMade m offers shown is e h = subst (AreOffersMade IsMade) (sym e) (subst (IsMayMade IsMade) is h)
