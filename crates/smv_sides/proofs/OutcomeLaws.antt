-- Right sides with outcomes of their own.
use Rattle.std.proofs.Common.{◌≡◌, ℕ, List, Bool, not, ◌&&◌, sym, ap, ◌∙◌, subst}
use Rattle.std.specs.List.{list_any}
use Rattle.law_lists.proofs.Anys.{any-agree}
use Rattle.smv_core.specs.declared.flat.FlatExpr.{FlatExpr}
use Rattle.law_obligations.specs.Places.{World, AbsOutcome}
use Rattle.law_obligations.specs.Right.{gives_surely, same_outcome}
use Rattle.law_obligations.specs.RightSides.{some_differ}
use Rattle.law_obligations.proofs.RightLaws.{only-some}
use Rattle.smv_spots.specs.declared.spots.Spot.{Spot}
use Rattle.smv_problem.specs.declared.problem.Problem.{Problem}
use Rattle.smv_problem_spots.specs.Worlds.{IsWorldOf}
use Rattle.smv_conditions.specs.declared.offers.Offer.{Offer}
use Rattle.smv_conditions.specs.Keep.{KeepsConditions}
use Rattle.smv_conditions.specs.Offers.{any_offer, AreOffersMade}
use Rattle.smv_conditions.proofs.AddLaws.{offers_same, offers_kept}
use Rattle.smv_cells.specs.declared.cells.Cell.{Cell}
use Rattle.smv_cells.specs.Seen.{View, IsSeen, outcomes}
use Rattle.smv_outcomes.specs.Outcomes.{AreOffersOf}
use Rattle.smv_targets.specs.declared.targets.Target.{Target}
use Rattle.smv_targets.specs.declared.targets.Sense.{Sense}
use Rattle.smv_targets.specs.declared.targets.Sense.TheVariants.{Surely}
use Rattle.smv_targets.specs.Targets.{IsTargetMade, IsSo, given_at, meant}
use Rattle.smv_targets.specs.Offered.{given_test, differs_from, differs_in, two_differ}
use Rattle.smv_targets.proofs.AimLaws.{given_means, target_on}
use Rattle.smv_targets.proofs.OfferedLaws.{and_same}
use Rattle.smv_sides.specs.Sides.{some_means, only_means}

pub shown_made : {C : Type 0} (IsMade : C → Type 0) (offers shown : List (Offer C)) → shown ≡ offers → AreOffersMade IsMade offers → AreOffersMade IsMade shown
shown_made IsMade offers shown e m = subst (AreOffersMade IsMade) (sym e) m

module _ {S C : Type 0} (IsMade : S → C → Type 0) (holds : S → C → (ℕ → Bool) → Bool) (room : S → ℕ) where
  pub shown_kept : (s t : S) (offers shown : List (Offer C)) → shown ≡ offers → KeepsConditions IsMade holds room s t → AreOffersMade (IsMade s) offers → AreOffersMade (IsMade t) shown
  shown_kept s t offers shown e k m = offers_kept IsMade holds room s t shown k (shown_made (IsMade s) offers shown e m)

  pub some_is : (s mid end : S) (problem : Problem) (cells : List (Cell C)) (x : Target C) (sense : Sense) (e : FlatExpr) (b : List Spot) (offers shown : List (Offer C)) (r : C) →
      shown ≡ offers → KeepsConditions IsMade holds room s mid → IsTargetMade (IsMade s) x → ((v : View) → IsSeen holds s problem cells v → AreOffersOf holds mid v e b offers) →
      ((w : World) → IsWorldOf problem w → (a : ℕ → Bool) → holds end r a ≡ any_offer w.classes holds mid a (given_test holds mid a w.classes x sense) shown) → IsSo holds s end problem cells x (some_means sense b e) r
  unfolding IsSo some_means given_test AreOffersOf
  some_is s mid end problem cells x sense e b offers shown r f k made are given z aim a =
      let h = target_on IsMade holds room s mid x z k made aim.target in
      given z.view.world aim.seen.world a
      ∙ (ap (any_offer z.view.world.classes holds mid a (λ u. holds mid (given_at z.view.world.classes x sense u) a)) f
      ∙ (are z.view aim.seen a (λ u. holds mid (given_at z.view.world.classes x sense u) a)
      ∙ any-agree (λ u. holds mid (given_at z.view.world.classes x sense u) a) (λ u. meant sense z.every u (z.value a)) (outcomes z.view a e b) (λ u. given_means holds mid x z h a sense u)))

  pub only_is : (s mid t next one end : S) (problem : Problem) (cells : List (Cell C)) (x : Target C) (e : FlatExpr) (b : List Spot) (offers shown twice : List (Offer C)) (sure two none r : C) →
      shown ≡ offers → twice ≡ offers → KeepsConditions IsMade holds room s mid → KeepsConditions IsMade holds room mid t → KeepsConditions IsMade holds room t next → KeepsConditions IsMade holds room next one → IsTargetMade (IsMade s) x → AreOffersMade (IsMade mid) offers → IsMade t sure →
      ((v : View) → IsSeen holds s problem cells v → AreOffersOf holds mid v e b offers) →
      ((w : World) → IsWorldOf problem w → (a : ℕ → Bool) → holds t sure a ≡ any_offer w.classes holds mid a (given_test holds mid a w.classes x Surely) shown) →
      ((w : World) → IsWorldOf problem w → (a : ℕ → Bool) → holds next two a ≡ two_differ w.classes holds t a twice) →
      ((a : ℕ → Bool) → holds one none a ≡ not (holds next two a)) → ((a : ℕ → Bool) → holds end r a ≡ (holds one sure a && holds one none a)) → IsSo holds s end problem cells x (only_means b e) r
  unfolding IsSo some_means only_means two_differ differs_in differs_from AreOffersOf
  only_is s mid t next one end problem cells x e b offers shown twice sure two none r f g k l j i made listed sure_made are given differs opposite whole z aim a =
      let n = z.view.world.classes in
      let us : List AbsOutcome = outcomes z.view a e b in
      let first : holds t sure a ≡ list_any (λ u. gives_surely z.every u (z.value a)) us = some_is s mid t problem cells x Surely e b offers shown sure f k made are given z aim a in
      let offered : (p : AbsOutcome → Bool) → any_offer n holds t a p offers ≡ list_any p us = λ p. offers_same n IsMade holds room a p mid t offers l listed ∙ are z.view aim.seen a p in
      let second : holds next two a ≡ some_differ us = differs z.view.world aim.seen.world a ∙ (ap (λ l. any_offer n holds t a (λ u. any_offer n holds t a (λ v. not (same_outcome u v)) l) l) g
      ∙ (offered (λ u. any_offer n holds t a (λ v. not (same_outcome u v)) offers) ∙ any-agree (λ u. any_offer n holds t a (λ v. not (same_outcome u v)) offers) (λ u. list_any (λ v. not (same_outcome u v)) us) us (λ u. offered (λ v. not (same_outcome u v))))) in
      whole a ∙ (and_same (i.same sure (j.made sure sure_made) a ∙ (j.same sure sure_made a ∙ first)) (opposite a ∙ ap not second) ∙ sym (only-some z.every us (z.value a)))
