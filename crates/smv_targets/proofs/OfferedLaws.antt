-- Lists of outcomes, and which of them differ.
use Rattle.std.proofs.Common.{◌≡◌, ℕ, List, [], ◌∷◌, length, arith, Bool, true, false, not, ◌&&◌, ◌||◌, refl, sym, ap, ◌∙◌}
use Rattle.std.specs.List.{list_any}
use Rattle.smv_core.specs.FlatMeaning.{Numbered}
use Rattle.law_obligations.specs.Places.{AbsOutcome}
use Rattle.law_obligations.specs.Right.{same_outcome}
use Rattle.law_obligations.proofs.Same.{same_outcome-itself, same_outcome-is}
use Rattle.smv_spots.specs.Spots.{outcome_in}
use Rattle.smv_conditions.specs.declared.offers.Offer.{Offer}
use Rattle.smv_conditions.specs.Offers.{any_offer}
use Rattle.law_obligations.proofs.MixLaws.{or_same}
use Rattle.smv_targets.specs.Offered.{differs_from, differs_in, two_differ}

pub and_same : {a b c d : Bool} → a ≡ c → b ≡ d → (a && b) ≡ (c && d)
and_same {b = b} {c = c} e f = ap (λ x. x && b) e ∙ ap (λ x. c && x) f

module _ {S C : Type 0} (n : Numbered) (holds : S → C → (ℕ → Bool) → Bool) (s : S) (a : ℕ → Bool) where
  pub none_offered : (p : AbsOutcome → Bool) (offers : List (Offer C)) (r : Bool) → length offers ≡ 0 → r ≡ false → r ≡ any_offer n holds s a p offers
  unfolding any_offer
  none_offered p [] r e f = f
  none_offered p (o ∷ os) r e f = absurd (omega arith)

  pub one_offered : (p : AbsOutcome → Bool) (o : Offer C) (os offers : List (Offer C)) (r : Bool) → offers ≡ o ∷ os → r ≡ ((holds s o.when a && p (outcome_in n o.outcome)) || any_offer n holds s a p os) → r ≡ any_offer n holds s a p offers
  unfolding any_offer
  one_offered p o os offers r e f = f ∙ ap (any_offer n holds s a p) (sym e)

  -- one more that is possible
  pub also_offered : (o : Offer C) (os offers : List (Offer C)) (r : Bool) → offers ≡ o ∷ os → r ≡ (holds s o.when a || any_offer n holds s a (λ u. true) os) → r ≡ any_offer n holds s a (λ u. true) offers
  also_offered o os offers r e f = one_offered (λ u. true) o os offers r e (f ∙ ap (λ b. b || any_offer n holds s a (λ u. true) os) (sure (holds s o.when a)))
    where
      sure : (b : Bool) → b ≡ (b && true)
      sure true = refl
      sure false = refl

  -- where none is the same, each is another
  no_same : (u : AbsOutcome) (os : List (Offer C)) → list_any (λ (o : Offer C). same_outcome u (outcome_in n o.outcome)) os ≡ false → any_offer n holds s a (λ u. true) os ≡ any_offer n holds s a (differs_from u) os
  unfolding any_offer differs_from
  no_same u [] e = refl
  no_same u (o ∷ os) e = at (holds s o.when a) (same_outcome u (outcome_in n o.outcome)) (list_any (λ (o : Offer C). same_outcome u (outcome_in n o.outcome)) os) _ _ (no_same u os) e
    where
      at : (w b c d d' : Bool) → (c ≡ false → d ≡ d') → (b || c) ≡ false → ((w && true) || d) ≡ ((w && not b) || d')
      at w true c d d' f e = absurd (cc)
      at true false c d d' f e = refl
      at false false c d d' f e = f e

  pub others_all : (u : AbsOutcome) (os : List (Offer C)) (same r : Bool) → same ≡ list_any (λ (o : Offer C). same_outcome u (outcome_in n o.outcome)) os → same ≡ false → r ≡ any_offer n holds s a (λ u. true) os → r ≡ any_offer n holds s a (differs_from u) os
  others_all u os same r e f g = g ∙ no_same u os (sym e ∙ f)

  pub one_same : (u : AbsOutcome) (o : Offer C) (os offers : List (Offer C)) → offers ≡ o ∷ os → (same_outcome u (outcome_in n o.outcome) || list_any (λ (o : Offer C). same_outcome u (outcome_in n o.outcome)) os) ≡ list_any (λ (o : Offer C). same_outcome u (outcome_in n o.outcome)) offers
  one_same u o os offers e = ap (list_any (λ (o : Offer C). same_outcome u (outcome_in n o.outcome))) (sym e)

  -- two in a longer list: two in the shorter, or the first and another
  same_back : (u v : AbsOutcome) → same_outcome u v ≡ same_outcome v u
  same_back u v = at (same_outcome u v) (same_outcome v u) (λ e. ap (λ x. same_outcome x u) (sym (same_outcome-is u v e)) ∙ same_outcome-itself u) (λ e. ap (λ x. same_outcome x v) (sym (same_outcome-is v u e)) ∙ same_outcome-itself v)
    where
      at : (b c : Bool) → (b ≡ true → c ≡ true) → (c ≡ true → b ≡ true) → b ≡ c
      at true c f g = sym (f refl)
      at false true f g = g refl
      at false false f g = refl

  any-both : (w : Bool) (p q : AbsOutcome → Bool) (os : List (Offer C)) → any_offer n holds s a (λ u. (w && p u) || q u) os ≡ ((w && any_offer n holds s a p os) || any_offer n holds s a q os)
  unfolding any_offer
  any-both w p q [] = at w
    where
      at : (w : Bool) → false ≡ ((w && false) || false)
      at true = refl
      at false = refl
  any-both w p q (o ∷ os) = at (holds s o.when a) w (p (outcome_in n o.outcome)) (q (outcome_in n o.outcome)) _ _ _ (any-both w p q os)
    where
      at : (h w x y r p q : Bool) → r ≡ ((w && p) || q) → ((h && ((w && x) || y)) || r) ≡ ((w && ((h && x) || p)) || ((h && y) || q))
      at true true true y r p q e = refl
      at true true false true r true q e = refl
      at true true false true r false q e = refl
      at true true false false r p q e = e
      at true false x y r p q e = ap (λ b. y || b) e
      at false w x y r p q e = e

  any-same : (p q : AbsOutcome → Bool) (os : List (Offer C)) → ((u : AbsOutcome) → p u ≡ q u) → any_offer n holds s a p os ≡ any_offer n holds s a q os
  unfolding any_offer
  any-same p q [] e = refl
  any-same p q (o ∷ os) e = or_same (ap (λ b. holds s o.when a && b) (e (outcome_in n o.outcome))) (any-same p q os e)

  two_after : (w b x y d : Bool) → b ≡ true → y ≡ ((w && x) || d) → ((w && ((w && not b) || x)) || y) ≡ ((w && x) || d)
  two_after true true true y d e f = refl
  two_after true true false y d e f = f
  two_after false b x y d e f = f
  two_after true false x y d e f = absurd (cc)

  two_split : (o : Offer C) (os : List (Offer C)) → two_differ n holds s a (o ∷ os) ≡ ((holds s o.when a && any_offer n holds s a (differs_from (outcome_in n o.outcome)) os) || two_differ n holds s a os)
  unfolding two_differ differs_in differs_from any_offer
  two_split o os =
      two_after (holds s o.when a) (same_outcome (outcome_in n o.outcome) (outcome_in n o.outcome)) (any_offer n holds s a (differs_from (outcome_in n o.outcome)) os) _ (two_differ n holds s a os) (same_outcome-itself (outcome_in n o.outcome))
      (any-both (holds s o.when a) (λ u. not (same_outcome u (outcome_in n o.outcome))) (λ u. any_offer n holds s a (λ v. not (same_outcome u v)) os) os
      ∙ ap (λ b. (holds s o.when a && b) || two_differ n holds s a os) (any-same (λ u. not (same_outcome u (outcome_in n o.outcome))) (λ u. not (same_outcome (outcome_in n o.outcome) u)) os (λ u. ap not (same_back u (outcome_in n o.outcome)))))

  pub two_more : (o : Offer C) (os offers : List (Offer C)) (r : Bool) → offers ≡ o ∷ os → r ≡ ((holds s o.when a && any_offer n holds s a (differs_from (outcome_in n o.outcome)) os) || two_differ n holds s a os) → r ≡ two_differ n holds s a offers
  two_more o os offers r e f = f ∙ (sym (two_split o os) ∙ ap (two_differ n holds s a) (sym e))

  pub none_differ : (offers : List (Offer C)) (r : Bool) → length offers ≡ 0 → r ≡ false → r ≡ two_differ n holds s a offers
  unfolding two_differ any_offer
  none_differ [] r e f = f
  none_differ (o ∷ os) r e f = absurd (omega arith)

pub same_skipped : (w b : Bool) (u v : AbsOutcome) → same_outcome u v ≡ true → b ≡ ((w && differs_from u v) || b)
unfolding differs_from
same_skipped w b u v e = at w b (same_outcome u v) e
  where
    at : (w b c : Bool) → c ≡ true → b ≡ ((w && not c) || b)
    at true b true e = refl
    at false b c e = refl
    at true b false e = absurd (cc)

pub other_added : (w : Bool) (u v : AbsOutcome) → same_outcome u v ≡ false → w ≡ (w && differs_from u v)
unfolding differs_from
other_added w u v e = at w (same_outcome u v) e
  where
    at : (w c : Bool) → c ≡ false → w ≡ (w && not c)
    at true false e = refl
    at false c e = refl
    at true true e = absurd (cc)
