-- Lists of outcomes as they are gone through.
use Rattle.std.proofs.Common.{◌≡◌, ℕ, List, [], ◌∷◌, length, Option, None, Bool, true, false, ◌&&◌, ◌||◌, refl, sym, ap, ◌∙◌, arith, subst}
use Rattle.std.specs.List.{list_any}
use Rattle.law_lists.proofs.Anys.{any-agree}
use Rattle.smv_core.specs.FlatMeaning.{Numbered}
use Rattle.smv_core.specs.Outcome.{is_true}
use Rattle.smv_core.specs.declared.tree.Op.{Op}
use Rattle.law_obligations.specs.Right.{is_false, is_neither}
use Rattle.law_obligations.specs.Places.{AbsOutcome, may_compare}
use Rattle.smv_spots.specs.declared.spots.Spot.{Spot}
use Rattle.smv_spots.specs.declared.answers.Answers.{Answers}
use Rattle.smv_spots.specs.Spots.{outcome_in}
use Rattle.smv_spots.specs.Answers.{answers_of}
use Rattle.smv_conditions.specs.declared.offers.Offer.{Offer}
use Rattle.smv_conditions.specs.declared.chances.Chances.{Chances}
use Rattle.smv_conditions.specs.Keep.{KeepsConditions}
use Rattle.law_obligations.specs.Mix.{none_at_all}
use Rattle.smv_conditions.specs.Chances.{mix_at, AreMade}
use Rattle.smv_conditions.specs.Offers.{any_offer, AreOffersMade}
use Rattle.smv_conditions.specs.Adds.{Adds}
use Rattle.smv_conditions.proofs.AddLaws.{offers_same, offers_kept}
use Rattle.smv_conditions.proofs.ChainLaws.{mix_kept}
use Rattle.smv_conditions.proofs.OfferLaws.{first_made}
use Rattle.law_obligations.proofs.MixLaws.{same_mix}
use Rattle.law_obligations.specs.Combined.{branch_any}
use Rattle.smv_outcome_lists.specs.Pairs.{with_answers, guard_mix, compare_each, compare_mix}

pub rest_made : {C : Type 0} (IsMade : C → Type 0) (o : Offer C) (os offers : List (Offer C)) → offers ≡ o ∷ os → AreOffersMade IsMade offers → AreOffersMade IsMade os
rest_made IsMade o os offers e m = let k = subst (AreOffersMade IsMade) e m in k.1

module _ {S C : Type 0} (n : Numbered) (holds : S → C → (ℕ → Bool) → Bool) (a : ℕ → Bool) where
  -- no list
  pub none_compared : (s t : S) (z : Chances C) (op : Op) (u : AbsOutcome) (vs : List (Offer C)) → length vs ≡ 0 → mix_at holds t a z ≡ none_at_all → mix_at holds t a z ≡ compare_each n holds s a op u vs
  unfolding compare_each any_offer
  none_compared s t z op u [] e h = h
  none_compared s t z op u (v ∷ vs) e h = absurd (omega arith)

  pub none_compared_all : (s t : S) (z : Chances C) (op : Op) (us vs : List (Offer C)) → length us ≡ 0 → mix_at holds t a z ≡ none_at_all → mix_at holds t a z ≡ compare_mix n holds s a op us vs
  unfolding compare_mix any_offer
  none_compared_all s t z op [] vs e h = h
  none_compared_all s t z op (u ∷ us) vs e h = absurd (omega arith)

  -- one more
  one_compared : (s : S) (op : Op) (u : AbsOutcome) (v : Offer C) (vs : List (Offer C)) → with_answers (holds s v.when a) (answers_of (may_compare op u (outcome_in n v.outcome))) (compare_each n holds s a op u vs) ≡ compare_each n holds s a op u (v ∷ vs)
  unfolding compare_each any_offer
  one_compared s op u v vs = refl

  one_compared_all : (s : S) (op : Op) (u : Offer C) (us vs : List (Offer C)) → guard_mix (holds s u.when a) (compare_each n holds s a op (outcome_in n u.outcome) vs) (compare_mix n holds s a op us vs) ≡ compare_mix n holds s a op (u ∷ us) vs
  unfolding compare_each compare_mix any_offer
  one_compared_all s op u us vs = refl

  pub more_compared : (s mid t : S) (op : Op) (u : Option Spot) (v : Offer C) (vs all : List (Offer C)) (x z : Chances C) (answers : Answers) →
      all ≡ v ∷ vs → answers ≡ answers_of (may_compare op (outcome_in n u) (outcome_in n v.outcome)) → mix_at holds mid a x ≡ compare_each n holds s a op (outcome_in n u) vs → holds mid v.when a ≡ holds s v.when a →
      mix_at holds t a z ≡ with_answers (holds mid v.when a) answers (mix_at holds mid a x) → mix_at holds t a z ≡ compare_each n holds s a op (outcome_in n u) all
  more_compared s mid t op u v vs all x z answers whole is rest kept made =
      made
      ∙ (ap (λ b. with_answers b answers (mix_at holds mid a x)) kept
      ∙ (ap (λ m. with_answers (holds s v.when a) answers m) rest
      ∙ (ap (λ y. with_answers (holds s v.when a) y (compare_each n holds s a op (outcome_in n u) vs)) is
      ∙ (one_compared s op (outcome_in n u) v vs ∙ ap (compare_each n holds s a op (outcome_in n u)) (sym whole)))))

module _ {S C : Type 0} (n : Numbered) (IsMade : S → C → Type 0) (holds : S → C → (ℕ → Bool) → Bool) (room : S → ℕ) (a : ℕ → Bool) where
  pub each_same : (s t : S) (op : Op) (u : AbsOutcome) (vs : List (Offer C)) → KeepsConditions IsMade holds room s t → AreOffersMade (IsMade s) vs → compare_each n holds t a op u vs ≡ compare_each n holds s a op u vs
  unfolding compare_each
  each_same s t op u vs k m = same_mix (offers_same n IsMade holds room a (λ v. list_any is_false (may_compare op u v)) s t vs k m) (offers_same n IsMade holds room a (λ v. list_any is_true (may_compare op u v)) s t vs k m) (offers_same n IsMade holds room a (λ v. list_any is_neither (may_compare op u v)) s t vs k m)

  pub more_compared_all : (s mid later t : S) (op : Op) (u : Offer C) (us all vs : List (Offer C)) (x y z : Chances C) → all ≡ u ∷ us → KeepsConditions IsMade holds room s mid → KeepsConditions IsMade holds room mid later →
      AreOffersMade (IsMade s) all → AreOffersMade (IsMade s) vs → AreMade (IsMade mid) x → mix_at holds mid a x ≡ compare_mix n holds s a op us vs → mix_at holds later a y ≡ compare_each n holds mid a op (outcome_in n u.outcome) vs →
      mix_at holds t a z ≡ guard_mix (holds later u.when a) (mix_at holds later a y) (mix_at holds later a x) → mix_at holds t a z ≡ compare_mix n holds s a op all vs
  more_compared_all s mid later t op u us all vs x y z whole k l m mv mx rest here made =
      let mu : IsMade s u.when = first_made (IsMade s) u us all whole m in
      made
      ∙ (ap (λ b. guard_mix b (mix_at holds later a y) (mix_at holds later a x)) (l.same u.when (k.made u.when mu) a ∙ k.same u.when mu a)
      ∙ (ap (λ w. guard_mix (holds s u.when a) w (mix_at holds later a x)) (here ∙ each_same s mid op (outcome_in n u.outcome) vs k mv)
      ∙ (ap (λ w. guard_mix (holds s u.when a) (compare_each n holds s a op (outcome_in n u.outcome) vs) w) (mix_kept IsMade holds room a mid later x l mx ∙ rest)
      ∙ (one_compared_all n holds a s op u us vs ∙ ap (λ l. compare_mix n holds s a op l vs) (sym whole)))))

  -- sums
  nothing_more : (w b : Bool) → b ≡ (b || (w && false))
  nothing_more true true = refl
  nothing_more true false = refl
  nothing_more false true = refl
  nothing_more false false = refl

  pub none_added_each : (s : S) (p q : AbsOutcome → Bool) (out vs : List (Offer C)) (when : C) → length vs ≡ 0 → Adds n holds s s a p out out (holds s when a) (any_offer n holds s a q vs)
  unfolding Adds any_offer
  none_added_each s p q out [] when e = nothing_more (holds s when a) (any_offer n holds s a p out)
  none_added_each s p q out (v ∷ vs) when e = absurd (omega arith)

  both_added : (b w k r : Bool) → ((b || (w && k)) || (w && r)) ≡ (b || (w && (k || r)))
  both_added true w k r = refl
  both_added false true k r = refl
  both_added false false k r = refl

  pub more_added_each : (s mid t : S) (p q : AbsOutcome → Bool) (out longer longest : List (Offer C)) (when : C) (o : Offer C) (u : Option Spot) (os all : List (Offer C)) → all ≡ o ∷ os → KeepsConditions IsMade holds room s mid → IsMade s when → AreOffersMade (IsMade s) all →
      p (outcome_in n u) ≡ q (outcome_in n o.outcome) →
      Adds n holds s mid a p out longer (holds s when a) (holds s o.when a && p (outcome_in n u)) →
      Adds n holds mid t a p longer longest (holds mid when a) (any_offer n holds mid a q os) →
      Adds n holds s t a p out longest (holds s when a) (any_offer n holds s a q all)
  unfolding Adds any_offer
  more_added_each s mid t p q out longer longest when o u os all e k w m is one rest =
      rest
      ∙ (ap (λ b. b || (holds mid when a && any_offer n holds mid a q os)) one
      ∙ (ap (λ b. (any_offer n holds s a p out || (holds s when a && (holds s o.when a && b))) || (holds mid when a && any_offer n holds mid a q os)) is
      ∙ (ap (λ b. (any_offer n holds s a p out || (holds s when a && (holds s o.when a && q (outcome_in n o.outcome)))) || (b && any_offer n holds mid a q os)) (k.same when w a)
      ∙ (ap (λ b. (any_offer n holds s a p out || (holds s when a && (holds s o.when a && q (outcome_in n o.outcome)))) || (holds s when a && b)) (offers_same n IsMade holds room a q s mid os k (rest_made (IsMade s) o os all e m))
      ∙ (both_added (any_offer n holds s a p out) (holds s when a) (holds s o.when a && q (outcome_in n o.outcome)) (any_offer n holds s a q os)
      ∙ ap (λ l. any_offer n holds s a p out || (holds s when a && any_offer n holds s a q l)) (sym e))))))

  none_more : (b : Bool) → b ≡ (b || false)
  none_more true = refl
  none_more false = refl

  or_again : (b c d : Bool) → ((b || c) || d) ≡ (b || (c || d))
  or_again true c d = refl
  or_again false c d = refl

  pub none_added_all : (s : S) (p q : AbsOutcome → Bool) (out us : List (Offer C)) → length us ≡ 0 → any_offer n holds s a p out ≡ (any_offer n holds s a p out || any_offer n holds s a q us)
  unfolding any_offer
  none_added_all s p q out [] e = none_more (any_offer n holds s a p out)
  none_added_all s p q out (v ∷ vs) e = absurd (omega arith)

  -- one outcome's, and those of the others
  pub more_added_all : (s mid t : S) (p q r : AbsOutcome → Bool) (out longer longest : List (Offer C)) (u : Offer C) (us all : List (Offer C)) (more : Bool) → all ≡ u ∷ us → KeepsConditions IsMade holds room s mid → AreOffersMade (IsMade s) all →
      Adds n holds s mid a p out longer (holds s u.when a) more → more ≡ q (outcome_in n u.outcome) → ((o : AbsOutcome) → r o ≡ q o) →
      any_offer n holds t a p longest ≡ (any_offer n holds mid a p longer || any_offer n holds mid a r us) →
      any_offer n holds t a p longest ≡ (any_offer n holds s a p out || any_offer n holds s a q all)
  unfolding Adds any_offer
  more_added_all s mid t p q r out longer longest u us all more e k m one is same rest =
      rest
      ∙ (ap (λ b. b || any_offer n holds mid a r us) one
      ∙ (ap (λ b. (any_offer n holds s a p out || (holds s u.when a && b)) || any_offer n holds mid a r us) is
      ∙ (ap (λ b. (any_offer n holds s a p out || (holds s u.when a && q (outcome_in n u.outcome))) || b) (offers_same n IsMade holds room a r s mid us k (rest_made (IsMade s) u us all e m) ∙ any-agree (λ (o : Offer C). holds s o.when a && r (outcome_in n o.outcome)) (λ (o : Offer C). holds s o.when a && q (outcome_in n o.outcome)) us (λ o. ap (λ b. holds s o.when a && b) (same (outcome_in n o.outcome))))
      ∙ (or_again (any_offer n holds s a p out) (holds s u.when a && q (outcome_in n u.outcome)) (any_offer n holds s a q us)
      ∙ ap (λ l. any_offer n holds s a p out || any_offer n holds s a q l) (sym e)))))

  -- the branches of a conditional
  pub branches_added : (s s1 s2 t : S) (p : AbsOutcome → Bool) (out0 out1 out2 out3 ys xs : List (Offer C)) (x : Chances C) (always : C) → any_offer n holds s a p out0 ≡ false →
      KeepsConditions IsMade holds room s s1 → KeepsConditions IsMade holds room s1 s2 → AreMade (IsMade s) x → AreOffersMade (IsMade s) ys → AreOffersMade (IsMade s) xs → holds s always a ≡ true →
      Adds n holds s s1 a p out0 out1 (holds s x.neither a) (holds s always a && p None) → Adds n holds s1 s2 a p out1 out2 (holds s1 x.yes a) (any_offer n holds s1 a p ys) → Adds n holds s2 t a p out2 out3 (holds s2 x.no a) (any_offer n holds s2 a p xs) →
      any_offer n holds t a p out3 ≡ branch_any (mix_at holds s a x) (any_offer n holds s a p ys) (any_offer n holds s a p xs) (p None)
  unfolding Adds mix_at
  branches_added s s1 s2 t p out0 out1 out2 out3 ys xs x always empty k l mx my mn true_now first second third =
      let no1 : IsMade s1 x.no = k.made x.no mx.no in
      third
      ∙ (ap (λ b. b || (holds s2 x.no a && any_offer n holds s2 a p xs)) (second ∙ ap (λ b. b || (holds s1 x.yes a && any_offer n holds s1 a p ys)) (first ∙ ap (λ b. b || (holds s x.neither a && (holds s always a && p None))) empty))
      ∙ (ap (λ b. ((holds s x.neither a && (b && p None)) || (holds s1 x.yes a && any_offer n holds s1 a p ys)) || (holds s2 x.no a && any_offer n holds s2 a p xs)) true_now
      ∙ (ap (λ b. ((holds s x.neither a && p None) || (b && any_offer n holds s1 a p ys)) || (holds s2 x.no a && any_offer n holds s2 a p xs)) (k.same x.yes mx.yes a)
      ∙ (ap (λ b. ((holds s x.neither a && p None) || (holds s x.yes a && b)) || (holds s2 x.no a && any_offer n holds s2 a p xs)) (offers_same n IsMade holds room a p s s1 ys k my)
      ∙ (ap (λ b. ((holds s x.neither a && p None) || (holds s x.yes a && any_offer n holds s a p ys)) || (b && any_offer n holds s2 a p xs)) (l.same x.no no1 a ∙ k.same x.no mx.no a)
      ∙ (ap (λ b. ((holds s x.neither a && p None) || (holds s x.yes a && any_offer n holds s a p ys)) || (holds s x.no a && b)) (offers_same n IsMade holds room a p s1 s2 xs l (offers_kept IsMade holds room s s1 xs k mn) ∙ offers_same n IsMade holds room a p s s1 xs k mn)
      ∙ turned (holds s x.neither a && p None) (holds s x.yes a && any_offer n holds s a p ys) (holds s x.no a && any_offer n holds s a p xs)))))))
    where
      turned : (b c d : Bool) → ((b || c) || d) ≡ (d || (c || b))
      turned true true true = refl
      turned true true false = refl
      turned true false true = refl
      turned true false false = refl
      turned false true true = refl
      turned false true false = refl
      turned false false true = refl
      turned false false false = refl

  -- a list made from nothing
  pub from_nothing : (s t : S) (p : AbsOutcome → Bool) (out new : List (Offer C)) (always : C) (more : Bool) → out ≡ [] → holds s always a ≡ true → Adds n holds s t a p out new (holds s always a) more → any_offer n holds t a p new ≡ more
  unfolding Adds any_offer
  from_nothing s t p out new always more e h add = add ∙ (ap (λ l. any_offer n holds s a p l || (holds s always a && more)) e ∙ ap (λ b. b && more) h)

pub no_offer : {S C : Type 0} (n : Numbered) (holds : S → C → (ℕ → Bool) → Bool) (s : S) (a : ℕ → Bool) (p : AbsOutcome → Bool) (out : List (Offer C)) → out ≡ [] → any_offer n holds s a p out ≡ false
unfolding any_offer
no_offer n holds s a p out e = ap (any_offer n holds s a p) e
