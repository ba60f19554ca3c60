-- Whether an assignment is to the element, index by index.
use Rattle.std.proofs.Common.{◌≡◌, ℕ, List, [], ◌∷◌, map, drop, length, slice_get, Option, Bool, refl, sym, ap, ◌∙◌, arith}
use Rattle.smv_core.specs.Values.{Truth}
use Rattle.smv_core.specs.FlatMeaning.{Numbered}
use Rattle.smv_core.specs.Outcome.{is_true}
use Rattle.smv_core.specs.declared.flat.FlatExpr.{FlatExpr}
use Rattle.law_obligations.specs.Places.{AbsOutcome}
use Rattle.law_obligations.specs.Right.{is_false, is_neither}
use Rattle.law_obligations.specs.Mix.{mix_by, only_yes, none_at_all, and_mix}
use Rattle.law_obligations.specs.Gist.{matches_all}
use Rattle.law_obligations.proofs.MixLaws.{same_mix}
use Rattle.smv_spots.specs.declared.spots.Spot.{Spot}
use Rattle.smv_spots.specs.Spots.{place_in, outcome_in}
use Rattle.smv_conditions.specs.declared.offers.Offer.{Offer}
use Rattle.smv_conditions.specs.declared.chances.Chances.{Chances}
use Rattle.smv_conditions.specs.Keep.{KeepsConditions}
use Rattle.smv_conditions.specs.Chances.{AreMade, mix_at}
use Rattle.smv_conditions.specs.Offers.{any_offer, with_truth}
use Rattle.smv_conditions.proofs.ChainLaws.{mix_kept}
use Rattle.smv_cells.specs.Seen.{View, outcomes}
use Rattle.smv_cells.proofs.SeenLaws.{keeps_trans}
use Rattle.smv_outcomes.specs.Outcomes.{AreOffersOf}
use Rattle.smv_walk_parts.specs.Parts.{index_test, index_mix, IsMatch}

module _ {S C : Type 0} (n : Numbered) (holds : S → C → (ℕ → Bool) → Bool) (a : ℕ → Bool) where
  pub no_offer : (s t : S) (index : Option Spot) (z : Chances C) (os : List (Offer C)) → length os ≡ 0 → mix_at holds t a z ≡ none_at_all → mix_at holds t a z ≡ index_mix n holds s a index os
  unfolding index_mix any_offer
  no_offer s t index z [] e h = h
  no_offer s t index z (o ∷ os) e h = absurd (omega arith)

  one_more : (s : S) (index : Option Spot) (o : Offer C) (os : List (Offer C)) → with_truth (holds s o.when a) (index_test n index (outcome_in n o.outcome)) (index_mix n holds s a index os) ≡ index_mix n holds s a index (o ∷ os)
  unfolding with_truth index_mix any_offer
  one_more s index o os = refl

  pub more_offers : (old mid new : S) (index : Option Spot) (o : Offer C) (os all : List (Offer C)) (x z : Chances C) (t : Truth) →
      all ≡ o ∷ os → t ≡ index_test n index (outcome_in n o.outcome) → mix_at holds mid a x ≡ index_mix n holds old a index os → holds mid o.when a ≡ holds old o.when a →
      mix_at holds new a z ≡ with_truth (holds mid o.when a) t (mix_at holds mid a x) → mix_at holds new a z ≡ index_mix n holds old a index all
  more_offers old mid new index o os all x z t whole kind rest kept made =
      made
      ∙ (ap (λ b. with_truth b t (mix_at holds mid a x)) kept
      ∙ (ap (λ k. with_truth (holds old o.when a) k (mix_at holds mid a x)) kind
      ∙ (ap (with_truth (holds old o.when a) (index_test n index (outcome_in n o.outcome))) rest
      ∙ (one_more old index o os ∙ ap (index_mix n holds old a index) (sym whole)))))

-- offers that are those of an expression give what its outcomes give
module _ {S C : Type 0} (holds : S → C → (ℕ → Bool) → Bool) (v : View) where
  pub index_of_outcomes : (s : S) (index : Option Spot) (e : FlatExpr) (b : List Spot) (os shown : List (Offer C)) → shown ≡ os → AreOffersOf holds s v e b os → (a : ℕ → Bool) → index_mix v.world.classes holds s a index shown ≡ mix_by (index_test v.world.classes index) (outcomes v a e b)
  unfolding index_mix AreOffersOf
  index_of_outcomes s index e b os shown f are a =
      ap (index_mix v.world.classes holds s a index) f
      ∙ same_mix (are a (λ u. is_false (index_test v.world.classes index u))) (are a (λ u. is_true (index_test v.world.classes index u))) (are a (λ u. is_neither (index_test v.world.classes index u)))

-- one index more
one_index : (n : Numbered) (indexes : List Spot) (us : List AbsOutcome) (uss : List (List AbsOutcome)) → and_mix (mix_by (index_test n (slice_get indexes 0)) us) (matches_all (map (place_in n) (drop 1 indexes)) uss) ≡ matches_all (map (place_in n) indexes) (us ∷ uss)
unfolding index_test
one_index n [] us uss = refl
one_index n (q ∷ qs) us uss = refl

none_left : (qs : List Spot) (n : Numbered) → only_yes ≡ matches_all (map (place_in n) qs) []
none_left [] n = refl
none_left (q ∷ qs) n = refl

pub no_index : {S C : Type 0} (holds : S → C → (ℕ → Bool) → Bool) (s : S) (v : View) (indexes : List Spot) (left : List FlatExpr) (b : List Spot) (z : Chances C) → length left ≡ 0 → ((a : ℕ → Bool) → mix_at holds s a z ≡ only_yes) → IsMatch holds s v indexes left b z
unfolding IsMatch
no_index holds s v indexes [] b z e h a = h a ∙ none_left indexes v.world.classes
no_index holds s v indexes (x ∷ xs) b z e h a = absurd (omega arith)

pub one_match : {S C : Type 0} (IsMade : S → C → Type 0) (holds : S → C → (ℕ → Bool) → Bool) (room : S → ℕ) (s1 s2 s3 s4 : S) (v : View) → KeepsConditions IsMade holds room s1 s2 → KeepsConditions IsMade holds room s2 s3 →
    (indexes behind : List Spot) (index : Option Spot) (e : FlatExpr) (others left : List FlatExpr) (b : List Spot) (x y z : Chances C) (os shown : List (Offer C)) → left ≡ e ∷ others → behind ≡ drop 1 indexes → index ≡ slice_get indexes 0 → shown ≡ os →
    AreMade (IsMade s1) x → IsMatch holds s1 v behind others b x → AreOffersOf holds s2 v e b os → ((a : ℕ → Bool) → mix_at holds s3 a y ≡ index_mix v.world.classes holds s2 a index shown) →
    ((a : ℕ → Bool) → mix_at holds s4 a z ≡ and_mix (mix_at holds s3 a y) (mix_at holds s3 a x)) → IsMatch holds s4 v indexes left b z
unfolding IsMatch
one_match IsMade holds room s1 s2 s3 s4 v k l indexes behind index e others left b x y z os shown whole back head f m rest are here made a =
    let n : Numbered = v.world.classes in
    made a
    ∙ (ap (λ c. and_mix c (mix_at holds s3 a x)) (here a ∙ (index_of_outcomes holds v s2 index e b os shown f are a ∙ ap (λ i. mix_by (index_test n i) (outcomes v a e b)) head))
    ∙ (ap (and_mix (mix_by (index_test n (slice_get indexes 0)) (outcomes v a e b))) (mix_kept IsMade holds room a s1 s3 x (keeps_trans IsMade holds room s1 s2 s3 k l) m ∙ (rest a ∙ ap (λ qs. matches_all (map (place_in n) qs) (map (λ e. outcomes v a e b) others)) back))
    ∙ (one_index n indexes (outcomes v a e b) (map (λ e. outcomes v a e b) others)
    ∙ ap (λ l. matches_all (map (place_in n) indexes) (map (λ e. outcomes v a e b) l)) (sym whole))))
