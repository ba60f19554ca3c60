-- One outcome more in a list, beside an equal one.
use Rattle.std.proofs.Common.{◌≡◌, ◌<◌, ℕ, zero, suc, length, List, [], ◌∷◌, ◌++◌, set, slice_get, get_or, Option, Some, Bool, true, false, ◌&&◌, ◌||◌, refl, sym, ap, ◌∙◌, subst}
use Rattle.std.proofs.lemmas.Option.{slice_get-get_or}
use Rattle.std.proofs.lemmas.List.{get_or_default}
use Rattle.std.proofs.lemmas.List.Folds.{list_any-append}
use Rattle.smv_core.specs.FlatMeaning.{Numbered}
use Rattle.law_obligations.specs.Places.{AbsOutcome}
use Rattle.smv_spots.specs.declared.spots.Spot.{Spot}
use Rattle.smv_spots.specs.Spots.{outcome_in}
use Rattle.smv_conditions.specs.declared.offers.Offer.{Offer}
use Rattle.smv_conditions.specs.Keep.{KeepsConditions}
use Rattle.smv_conditions.specs.Offers.{any_offer, AreOffersMade}
use Rattle.smv_conditions.specs.Adds.{Adds}
use Rattle.smv_conditions.proofs.AddLaws.{offers_same}

module _ {S C : Type 0} (n : Numbered) (IsMade : S → C → Type 0) (holds : S → C → (ℕ → Bool) → Bool) (room : S → ℕ) (a : ℕ → Bool) (p : AbsOutcome → Bool) where
  both_first : (w k x b : Bool) → (b || ((w && k) && x)) ≡ (b || (w && (k && x)))
  both_first true k x b = refl
  both_first false k x b = refl

  pub adds_both : (s mid t : S) (old new : List (Offer C)) (when also both : C) (outcome : Option Spot) → KeepsConditions IsMade holds room s mid → AreOffersMade (IsMade s) old →
      holds mid both a ≡ (holds s when a && holds s also a) → Adds n holds mid t a p old new (holds mid both a) (p (outcome_in n outcome)) → Adds n holds s t a p old new (holds s when a) (holds s also a && p (outcome_in n outcome))
  unfolding Adds
  adds_both s mid t old new when also both outcome k m h add =
      add
      ∙ (ap (λ b. b || (holds mid both a && p (outcome_in n outcome))) (offers_same n IsMade holds room a p s mid old k m)
      ∙ (ap (λ b. any_offer n holds s a p old || (b && p (outcome_in n outcome))) h
      ∙ both_first (holds s when a) (holds s also a) (p (outcome_in n outcome)) (any_offer n holds s a p old)))

  last : (b x : Bool) → (b || (x || false)) ≡ (b || x)
  last b true = refl
  last b false = refl

  pub adds_last : (s : S) (old new : List (Offer C)) (when : C) (outcome : Option Spot) (o : Offer C) → new ≡ old ++ o ∷ [] → o ≡ record { outcome = outcome; when = when } → Adds n holds s s a p old new (holds s when a) (p (outcome_in n outcome))
  unfolding Adds any_offer
  adds_last s old new when outcome o e f =
      ap (any_offer n holds s a p) e
      ∙ (list_any-append (λ (o : Offer C). holds s o.when a && p (outcome_in n o.outcome)) old (o ∷ [])
      ∙ (ap (λ (o : Offer C). any_offer n holds s a p old || ((holds s o.when a && p (outcome_in n o.outcome)) || false)) f
      ∙ last (any_offer n holds s a p old) (holds s when a && p (outcome_in n outcome))))

  joined_here : (b c x r : Bool) → (((b || c) && x) || r) ≡ (((b && x) || r) || (c && x))
  joined_here true true true r = refl
  joined_here true true false true = refl
  joined_here true true false false = refl
  joined_here true false true r = refl
  joined_here true false false true = refl
  joined_here true false false false = refl
  joined_here false true true true = refl
  joined_here false true true false = refl
  joined_here false true false true = refl
  joined_here false true false false = refl
  joined_here false false x true = refl
  joined_here false false x false = refl

  joined_there : (b c d e : Bool) → c ≡ (d || e) → (b || c) ≡ ((b || d) || e)
  joined_there true c d e q = refl
  joined_there false c d e q = q

  -- a longer condition at one place
  placed : (s t : S) (old : List (Offer C)) (i : ℕ) (when joined : C) (o : Offer C) → slice_get old i ≡ Some o → KeepsConditions IsMade holds room s t → AreOffersMade (IsMade s) old →
      holds t joined a ≡ (holds s o.when a || holds s when a) → any_offer n holds t a p (set old i (record { outcome = o.outcome; when = joined })) ≡ (any_offer n holds s a p old || (holds s when a && p (outcome_in n o.outcome)))
  unfolding any_offer
  placed s t [] i when joined o e k m h = absurd (cc)
  placed s t (x ∷ xs) zero when joined o e k m h =
      let is : x ≡ o = (cc) in
      ap (λ b. (b && p (outcome_in n o.outcome)) || any_offer n holds t a p xs) h
      ∙ (ap (λ b. ((holds s o.when a || holds s when a) && p (outcome_in n o.outcome)) || b) (offers_same n IsMade holds room a p s t xs k m.1)
      ∙ (joined_here (holds s o.when a) (holds s when a) (p (outcome_in n o.outcome)) (any_offer n holds s a p xs)
      ∙ ap (λ (y : Offer C). ((holds s y.when a && p (outcome_in n y.outcome)) || any_offer n holds s a p xs) || (holds s when a && p (outcome_in n o.outcome))) (sym is)))
  placed s t (x ∷ xs) (suc i) when joined o e k m h =
      ap (λ b. (b && p (outcome_in n x.outcome)) || any_offer n holds t a p (set xs i (record { outcome = o.outcome; when = joined }))) (k.same x.when m.0 a)
      ∙ joined_there (holds s x.when a && p (outcome_in n x.outcome)) (any_offer n holds t a p (set xs i (record { outcome = o.outcome; when = joined }))) (any_offer n holds s a p xs) (holds s when a && p (outcome_in n o.outcome)) (placed s t xs i when joined o e k m.1 h)

  pub adds_placed : (s t : S) (old shown new : List (Offer C)) (i : ℕ) (when before joined : C) (outcome : Option Spot) → shown ≡ old → slice_get shown i ≡ Some (record { outcome = outcome; when = before }) → KeepsConditions IsMade holds room s t → AreOffersMade (IsMade s) old →
      holds t joined a ≡ (holds s before a || holds s when a) → new ≡ set old i (record { outcome = outcome; when = joined }) → Adds n holds s t a p old new (holds s when a) (p (outcome_in n outcome))
  unfolding Adds
  adds_placed s t old shown new i when before joined outcome e at k m h is =
      ap (any_offer n holds t a p) is ∙ placed s t old i when joined (record { outcome = outcome; when = before }) (ap (λ l. slice_get l i) (sym e) ∙ at) k m h

pub made_placed : {C : Type 0} (IsMade : C → Type 0) (old : List (Offer C)) (i : ℕ) (o : Offer C) → AreOffersMade IsMade old → IsMade o.when → AreOffersMade IsMade (set old i o)
made_placed IsMade [] i o m h = tt
made_placed IsMade (x ∷ xs) zero o m h = (h, m.1)
made_placed IsMade (x ∷ xs) (suc i) o m h = (m.0, made_placed IsMade xs i o m.1 h)

pub made_at : {C : Type 0} (IsMade : C → Type 0) (old : List (Offer C)) (i : ℕ) (o : Offer C) → slice_get old i ≡ Some o → AreOffersMade IsMade old → IsMade o.when
made_at IsMade [] i o e m = absurd (cc)
made_at {C = C} IsMade (x ∷ xs) zero o e m = let is : x ≡ o = (cc) in subst (λ (y : Offer C). IsMade y.when) is m.0
made_at IsMade (x ∷ xs) (suc i) o e m = made_at IsMade xs i o e m.1

pub before_made : {C : Type 0} (IsMade : C → Type 0) (old shown : List (Offer C)) (i : ℕ) (outcome : Option Spot) (before : C) → shown ≡ old → slice_get shown i ≡ Some (record { outcome = outcome; when = before }) → AreOffersMade IsMade old → IsMade before
before_made IsMade old shown i outcome before e at m = made_at IsMade old i (record { outcome = outcome; when = before }) (ap (λ l. slice_get l i) (sym e) ∙ at) m

pub found : {C : Type 0} (xs : List (Offer C)) (i : ℕ) (d e : Offer C) (u : Option Spot) → i < length xs → (get_or xs i d).outcome ≡ u → slice_get xs i ≡ Some (record { outcome = u; when = (get_or xs i e).when })
found {C = C} xs i d e u l h =
    slice_get-get_or xs i e l ∙ ap (λ (v : Option Spot). let o : Offer C = record { outcome = v; when = (get_or xs i e).when } in Some o) (ap (λ (o : Offer C). o.outcome) (get_or_default xs i e d l) ∙ h)
