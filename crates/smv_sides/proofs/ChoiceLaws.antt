-- Comprehensions.
use Rattle.std.proofs.Common.{◌≡◌, ℕ, List, [], ◌∷◌, ◌++◌, map, take, length, arith, Bool, true, false, not, ◌&&◌, ◌||◌, Option, Some, None, refl, sym, ap, ◌∙◌}
use Rattle.std.specs.List.{list_any, list_all}
use Rattle.std.proofs.lemmas.List.{map-append, take-map}
use Rattle.std.proofs.lemmas.List.Folds.{list_any-append}
use Rattle.law_lists.proofs.Anys.{any-agree}
use Rattle.smv_core.specs.FlatMeaning.{Numbered}
use Rattle.smv_core.specs.Values.{Truth}
use Rattle.smv_core.specs.Outcome.{is_true}
use Rattle.smv_core.specs.declared.flat.FlatExpr.{FlatExpr, Each}
use Rattle.smv_core.specs.declared.flat.Simple.{Simple}
use Rattle.law_obligations.specs.Places.{Place, World, is_among, same_place, named_in, rests_in, places_in, AbsOutcome, bind_place}
use Rattle.law_obligations.specs.May.{AbsState, Kept, seen, may}
use Rattle.law_obligations.specs.Right.{gives, is_false, is_neither}
use Rattle.law_obligations.specs.Mix.{Mix}
use Rattle.law_obligations.specs.RightSides.{may_hold, must_hold}
use Rattle.law_obligations.proofs.MixLaws.{or_same}
use Rattle.law_obligations.proofs.RightLaws.{may_Each, must_Each}
use Rattle.smv_spots.specs.declared.spots.Spot.{Spot}
use Rattle.smv_spots.specs.Spots.{place_in, outcome_in}
use Rattle.smv_problem.specs.declared.problem.Problem.{Problem}
use Rattle.smv_problem_spots.specs.Worlds.{IsWorldOf}
use Rattle.smv_conditions.specs.declared.offers.Offer.{Offer}
use Rattle.smv_conditions.specs.declared.chances.Chances.{Chances}
use Rattle.smv_conditions.specs.Keep.{KeepsConditions}
use Rattle.smv_conditions.specs.Chances.{mix_at, AreMade}
use Rattle.smv_conditions.specs.Offers.{any_offer, AreOffersMade}
use Rattle.smv_conditions.proofs.AddLaws.{offers_same}
use Rattle.smv_cells.specs.declared.cells.Cell.{Cell}
use Rattle.smv_cells.specs.Seen.{View, IsSeen, outcomes}
use Rattle.smv_cells.proofs.SeenLaws.{keeps_trans}
use Rattle.smv_outcomes.specs.Outcomes.{mix_in, IsTruthOf}
use Rattle.smv_targets.specs.declared.targets.Target.{Target}
use Rattle.smv_targets.specs.declared.targets.Sense.{Sense}
use Rattle.smv_targets.specs.declared.targets.Sense.TheVariants as sense
use Rattle.smv_targets.specs.Targets.{Aim, IsTarget, IsTargetMade, IsSo, given_at, meant}
use Rattle.smv_targets.specs.Offered.{given_test}
use Rattle.smv_targets.proofs.AimLaws.{given_means, target_on}
use Rattle.smv_sides.specs.declared.choices.Met.{Met}
use Rattle.smv_sides.specs.declared.choices.Choices.{Choices}
use Rattle.smv_sides.specs.Choices.{some_chosen, IsMet, AddsChosen, AreChoices}
use Rattle.smv_sides.specs.Sides.{may_allowed, must_allowed}

all_true : (us : List AbsOutcome) → list_all (λ u. is_true (seen u)) us ≡ not (list_any (λ u. is_false (seen u)) us || list_any (λ u. is_neither (seen u)) us)
all_true [] = refl
all_true (u ∷ us) = ap (λ b. is_true (seen u) && b) (all_true us) ∙ at (seen u) (list_any (λ u. is_false (seen u)) us) (list_any (λ u. is_neither (seen u)) us)
  where
    at : (t : Truth) (b c : Bool) → (is_true t && not (b || c)) ≡ not ((is_false t || b) || (is_neither t || c))
    at (Some true) b c = refl
    at (Some false) b c = refl
    at None true c = refl
    at None false c = refl

module _ {S C : Type 0} (holds : S → C → (ℕ → Bool) → Bool) where
  pub met_always : (s : S) (v : View) (cond : Option FlatExpr) (b : List Spot) (m : Met C) → cond ≡ None → ((a : ℕ → Bool) → holds s m.may a ≡ true) → ((a : ℕ → Bool) → holds s m.must a ≡ true) → IsMet holds s v cond b m
  met_always s v cond b m e may_is must_is = record {
    may = λ a. may_is a ∙ ap (λ c. may_hold v.world v.kept (v.state a) c (map (place_in v.world.classes) b)) (sym e);
    must = λ a. must_is a ∙ ap (λ c. must_hold v.world v.kept (v.state a) c (map (place_in v.world.classes) b)) (sym e);
  }

module _ {S C : Type 0} (IsMade : S → C → Type 0) (holds : S → C → (ℕ → Bool) → Bool) (room : S → ℕ) where
  pub met_by : (mid next t : S) (v : View) (cond : Option FlatExpr) (e : FlatExpr) (b : List Spot) (x : Chances C) (other must : C) (m : Met C) → cond ≡ Some e → m ≡ record { may = x.yes; must = must } → KeepsConditions IsMade holds room mid next → KeepsConditions IsMade holds room next t → AreMade (IsMade mid) x →
      IsTruthOf holds mid v e b x → ((a : ℕ → Bool) → holds next other a ≡ (holds mid x.no a || holds mid x.neither a)) → ((a : ℕ → Bool) → holds t must a ≡ not (holds next other a)) → IsMet holds t v cond b m
  unfolding IsTruthOf mix_in mix_at outcomes
  met_by mid next t v cond e b x other must m is d k l made truth others opposite = record {
    may = λ a. ap (λ (m : Met C). holds t m.may a) d ∙ (l.same x.yes (k.made x.yes made.yes) a ∙ (k.same x.yes made.yes a ∙ (ap (λ (y : Mix). y.yes) (truth a) ∙ ap (λ c. may_hold v.world v.kept (v.state a) c (map (place_in v.world.classes) b)) (sym is))));
    must = λ a. ap (λ (m : Met C). holds t m.must a) d ∙ (opposite a ∙ (ap not (others a ∙ or_same (ap (λ (y : Mix). y.no) (truth a)) (ap (λ (y : Mix). y.neither) (truth a)))
        ∙ (sym (all_true (may v.world v.kept (v.state a) e (map (place_in v.world.classes) b))) ∙ ap (λ c. must_hold v.world v.kept (v.state a) c (map (place_in v.world.classes) b)) (sym is))));
  }

  last : (b : Bool) → (b || false) ≡ b
  last true = refl
  last false = refl

  grouped : (b c d : Bool) → ((b || c) || d) ≡ (b || (c || d))
  grouped true c d = refl
  grouped false c d = refl

  pub chosen_none : (s : S) (v : View) (meets : World → Kept → AbsState → Option FlatExpr → List Place → Bool) (b : List Spot) (var : ℕ) (cond : Option FlatExpr) (spots : List Spot) (old : List (Offer C)) → length spots ≡ 0 →
      AddsChosen holds s s v meets b var cond (map (place_in v.world.classes) spots) old old
  unfolding AddsChosen some_chosen
  chosen_none s v meets b var cond [] old e a p = sym (last (any_offer v.world.classes holds s a p old))
  chosen_none s v meets b var cond (q ∷ qs) old e a p = absurd (omega arith)

  -- a variable that is bound to a spot is bound to its place
  bound : (n : Numbered) (b : List Spot) (var : ℕ) (q : Spot) → map (place_in n) (take var b ++ q ∷ []) ≡ bind_place (map (place_in n) b) var (place_in n q)
  bound n b var q = map-append (place_in n) (take var b) (q ∷ []) ∙ ap (λ l. l ++ place_in n q ∷ []) (sym (take-map (place_in n) var b))

  pub chosen_one : (s mid : S) (v : View) (meets : World → Kept → AbsState → Option FlatExpr → List Place → Bool) (b : List Spot) (var : ℕ) (cond : Option FlatExpr) (spot : Spot) (inner shown : List Spot) (old longer : List (Offer C)) (when : C) →
      inner ≡ take var b ++ spot ∷ [] → shown ≡ inner → longer ≡ old ++ record { outcome = Some spot; when = when } ∷ [] → KeepsConditions IsMade holds room s mid → AreOffersMade (IsMade s) old →
      ((a : ℕ → Bool) → holds mid when a ≡ meets v.world v.kept (v.state a) cond (map (place_in v.world.classes) shown)) → AddsChosen holds s mid v meets b var cond (place_in v.world.classes spot ∷ []) old longer
  unfolding AddsChosen some_chosen any_offer
  chosen_one s mid v meets b var cond spot inner shown old longer when f g d k made met a p =
      let n : Numbered = v.world.classes in
      ap (any_offer n holds mid a p) d
      ∙ (list_any-append (λ (o : Offer C). holds mid o.when a && p (outcome_in n o.outcome)) old (record { outcome = Some spot; when = when } ∷ [])
      ∙ or_same (offers_same n IsMade holds room a p s mid old k made) (ap (λ c. (c && p (Some (place_in n spot))) || false) (met a ∙ ap (meets v.world v.kept (v.state a) cond) (ap (map (place_in n)) (g ∙ f) ∙ bound n b var spot))))

  pub chosen_join : (s mid t : S) (v : View) (meets : World → Kept → AbsState → Option FlatExpr → List Place → Bool) (b : List Spot) (var : ℕ) (cond : Option FlatExpr) (spot : Spot) (others spots : List Spot) (old longer new : List (Offer C)) → spots ≡ spot ∷ others →
      AddsChosen holds s mid v meets b var cond (place_in v.world.classes spot ∷ []) old longer → AddsChosen holds mid t v meets b var cond (map (place_in v.world.classes) others) longer new → AddsChosen holds s t v meets b var cond (map (place_in v.world.classes) spots) old new
  unfolding AddsChosen some_chosen
  chosen_join s mid t v meets b var cond spot others spots old longer new e first rest a p =
      let n : Numbered = v.world.classes in
      let test : Place → Bool = λ q. meets v.world v.kept (v.state a) cond (bind_place (map (place_in n) b) var q) && p (Some q) in
      rest a p
      ∙ (ap (λ c. c || list_any test (map (place_in n) others)) (first a p ∙ ap (λ c. any_offer n holds s a p old || c) (last (test (place_in n spot))))
      ∙ (grouped (any_offer n holds s a p old) (test (place_in n spot)) (list_any test (map (place_in n) others))
      ∙ ap (λ l. any_offer n holds s a p old || list_any test (map (place_in n) l)) (sym e)))

  pub choices_are : (s mid t : S) (v : View) (b : List Spot) (var : ℕ) (over : Simple) (cond : Option FlatExpr) (firsts firsts' lasts lasts' : List Spot) (none possible possible' none_named named none_rests rests : List (Offer C)) (c : Choices C) →
      map (place_in v.world.classes) firsts ≡ named_in v.world over → map (place_in v.world.classes) lasts ≡ rests_in v.world over → firsts' ≡ firsts → lasts' ≡ lasts → none ≡ [] → none_named ≡ [] → none_rests ≡ [] → c.possible ≡ possible' → c.named ≡ named → c.rests ≡ rests →
      KeepsConditions IsMade holds room mid t → AreOffersMade (IsMade mid) named →
      AddsChosen holds s mid v may_hold b var cond (map (place_in v.world.classes) firsts') none possible → AddsChosen holds s mid v must_hold b var cond (map (place_in v.world.classes) firsts') none_named named →
      AddsChosen holds mid t v may_hold b var cond (map (place_in v.world.classes) lasts') possible possible' → AddsChosen holds mid t v must_hold b var cond (map (place_in v.world.classes) lasts') none_rests rests → AreChoices holds t v b var over cond c
  unfolding AddsChosen some_chosen any_offer
  choices_are s mid t v b var over cond firsts firsts' lasts lasts' none possible possible' none_named named none_rests rests c ef el df dl empty empty_named empty_rests cp cn cr k made first_may first_must last_may last_must =
      let n : Numbered = v.world.classes in
      let test : (World → Kept → AbsState → Option FlatExpr → List Place → Bool) → (ℕ → Bool) → (AbsOutcome → Bool) → Place → Bool = λ meets a p q. meets v.world v.kept (v.state a) cond (bind_place (map (place_in n) b) var q) && p (Some q) in
      record {
        possible = λ a p. ap (any_offer n holds t a p) cp ∙ (last_may a p ∙ (or_same (first_may a p ∙ or_same (ap (any_offer n holds s a p) empty) (ap (list_any (test may_hold a p)) (ap (map (place_in n)) df ∙ ef))) (ap (list_any (test may_hold a p)) (ap (map (place_in n)) dl ∙ el))
            ∙ sym (list_any-append (test may_hold a p) (named_in v.world over) (rests_in v.world over))));
        named = λ a p. ap (any_offer n holds t a p) cn ∙ (offers_same n IsMade holds room a p mid t named k made ∙ (first_must a p ∙ or_same (ap (any_offer n holds s a p) empty_named) (ap (list_any (test must_hold a p)) (ap (map (place_in n)) df ∙ ef))));
        rests = λ a p. ap (any_offer n holds t a p) cr ∙ (last_must a p ∙ or_same (ap (any_offer n holds mid a p) empty_rests) (ap (list_any (test must_hold a p)) (ap (map (place_in n)) dl ∙ el)));
      }

  -- none of these
  none_all : {X : Type 0} (f : X → Bool) (xs : List X) → not (list_any (λ x. f x && true) xs) ≡ list_all (λ x. not (f x)) xs
  none_all f [] = refl
  none_all f (x ∷ xs) = at (f x) (list_any (λ x. f x && true) xs) ∙ ap (λ b. not (f x) && b) (none_all f xs)
    where
      at : (b c : Bool) → not ((b && true) || c) ≡ (not b && not c)
      at true c = refl
      at false c = refl

  known : (b c : Bool) → c ≡ true → b ≡ (b && c)
  known true c e = sym e
  known false c e = refl

  -- what a target asks of those that are chosen
  asked : (s : S) (x : Target C) (z : Aim) → IsTarget holds s x z → (a : ℕ → Bool) (k : Sense) (meets : World → Kept → AbsState → Option FlatExpr → List Place → Bool) (b : List Spot) (var : ℕ) (cond : Option FlatExpr) (places : List Place) →
      some_chosen meets z.view a b var cond (given_test holds s a z.view.world.classes x k) places ≡ list_any (λ q. meets z.view.world z.view.kept (z.view.state a) cond (bind_place (map (place_in z.view.world.classes) b) var q) && meant k z.every (Some q) (z.value a)) places
  unfolding some_chosen given_test
  asked s x z h a k meets b var cond places =
      any-agree (λ q. meets z.view.world z.view.kept (z.view.state a) cond (bind_place (map (place_in z.view.world.classes) b) var q) && holds s (given_at z.view.world.classes x k (Some q)) a) (λ q. meets z.view.world z.view.kept (z.view.state a) cond (bind_place (map (place_in z.view.world.classes) b) var q) && meant k z.every (Some q) (z.value a)) places
      (λ q. ap (λ c. meets z.view.world z.view.kept (z.view.state a) cond (bind_place (map (place_in z.view.world.classes) b) var q) && c) (given_means holds s x z h a k (Some q)))

  pub chooses_may : (s mid s1 s2 : S) (problem : Problem) (cells : List (Cell C)) (x : Target C) (var : ℕ) (over : Simple) (cond : Option FlatExpr) (at : ℕ) (b : List Spot) (c : Choices C) (possible named : List (Offer C)) (none r : C) →
      possible ≡ c.possible → named ≡ c.named → KeepsConditions IsMade holds room s mid → KeepsConditions IsMade holds room mid s1 →
      IsTargetMade (IsMade s) x → AreOffersMade (IsMade mid) c.possible → ((v : View) → IsSeen holds s problem cells v → AreChoices holds mid v b var over cond c) →
      ((n : Numbered) (a : ℕ → Bool) → holds s1 none a ≡ not (any_offer n holds mid a (λ u. true) named)) →
      ((w : World) → IsWorldOf problem w → (a : ℕ → Bool) → holds s2 r a ≡ (holds s1 none a || any_offer w.classes holds s1 a (given_test holds s1 a w.classes x sense.May) possible)) →
      IsSo holds s s2 problem cells x (may_allowed b (Each var over cond at)) r
  unfolding IsSo may_allowed some_chosen
  chooses_may s mid s1 s2 problem cells x var over cond at b c possible named none r e f k k1 made listed are nothing given z aim a =
      let n : Numbered = z.view.world.classes in
      let h = target_on IsMade holds room s s1 x z (keeps_trans IsMade holds room s mid s1 k k1) made aim.target in
      let choice = are z.view aim.seen in
      let bs : List Place = map (place_in n) b in
      let last : any_offer n holds s1 a (given_test holds s1 a n x sense.May) possible ≡ list_any (λ q. may_hold z.view.world z.view.kept (z.view.state a) cond (bind_place bs var q) && gives z.every (Some q) (z.value a)) (places_in z.view.world over) =
      ap (any_offer n holds s1 a (given_test holds s1 a n x sense.May)) e ∙ (offers_same n IsMade holds room a (given_test holds s1 a n x sense.May) mid s1 c.possible k1 listed ∙ (choice.possible a (given_test holds s1 a n x sense.May) ∙ asked s1 x z h a sense.May may_hold b var cond (places_in z.view.world over))) in
      let first : holds s1 none a ≡ (list_all (λ q. not (must_hold z.view.world z.view.kept (z.view.state a) cond (bind_place bs var q))) (named_in z.view.world over) && is_among z.every (z.value a)) =
      nothing n a ∙ (ap not (ap (any_offer n holds mid a (λ u. true)) f ∙ choice.named a (λ u. true)) ∙ (none_all (λ q. must_hold z.view.world z.view.kept (z.view.state a) cond (bind_place bs var q)) (named_in z.view.world over)
      ∙ known (list_all (λ q. not (must_hold z.view.world z.view.kept (z.view.state a) cond (bind_place bs var q))) (named_in z.view.world over)) (is_among z.every (z.value a)) (aim.target.of_type a))) in
      given z.view.world aim.seen.world a
      ∙ (or_same first last
      ∙ (turned (list_all (λ q. not (must_hold z.view.world z.view.kept (z.view.state a) cond (bind_place bs var q))) (named_in z.view.world over) && is_among z.every (z.value a)) (list_any (λ q. may_hold z.view.world z.view.kept (z.view.state a) cond (bind_place bs var q) && gives z.every (Some q) (z.value a)) (places_in z.view.world over))
      ∙ sym (may_Each z.view.world z.view.kept (z.view.state a) z.every var over cond at bs (z.value a))))
    where
      turned : (b c : Bool) → (b || c) ≡ (c || b)
      turned true true = refl
      turned true false = refl
      turned false true = refl
      turned false false = refl

  pub chooses_must : (s mid s1 s2 s3 s4 : S) (problem : Problem) (cells : List (Cell C)) (x : Target C) (var : ℕ) (over : Simple) (cond : Option FlatExpr) (at : ℕ) (b : List Spot) (c : Choices C) (possible named rests : List (Offer C)) (none outside here r : C) →
      possible ≡ c.possible → named ≡ c.named → rests ≡ c.rests → KeepsConditions IsMade holds room s mid → KeepsConditions IsMade holds room mid s1 → KeepsConditions IsMade holds room s1 s2 → KeepsConditions IsMade holds room s2 s3 →
      IsTargetMade (IsMade s) x → AreOffersMade (IsMade mid) c.named → AreOffersMade (IsMade mid) c.rests → ((v : View) → IsSeen holds s problem cells v → AreChoices holds mid v b var over cond c) →
      ((n : Numbered) (a : ℕ → Bool) → holds s1 none a ≡ not (any_offer n holds mid a (λ u. true) possible)) →
      ((w : World) → IsWorldOf problem w → (a : ℕ → Bool) → holds s2 outside a ≡ (holds s1 none a || any_offer w.classes holds s1 a (given_test holds s1 a w.classes x sense.Outside) named)) →
      ((w : World) → IsWorldOf problem w → (a : ℕ → Bool) → holds s3 here a ≡ (holds s2 outside a || any_offer w.classes holds s2 a (given_test holds s2 a w.classes x sense.Exactly) named)) →
      ((w : World) → IsWorldOf problem w → (a : ℕ → Bool) → holds s4 r a ≡ (holds s3 here a || any_offer w.classes holds s3 a (given_test holds s3 a w.classes x sense.Exactly) rests)) →
      IsSo holds s s4 problem cells x (must_allowed b (Each var over cond at)) r
  unfolding IsSo must_allowed some_chosen
  chooses_must s mid s1 s2 s3 s4 problem cells x var over cond at b c possible named rests none outside here r e f g k k1 k2 k3 made listed listed_rests are nothing outsides heres whole z aim a =
      let w : World = z.view.world in
      let n : Numbered = w.classes in
      let k4 : KeepsConditions IsMade holds room mid s2 = keeps_trans IsMade holds room mid s1 s2 k1 k2 in
      let k5 : KeepsConditions IsMade holds room mid s3 = keeps_trans IsMade holds room mid s2 s3 k4 k3 in
      let h1 = target_on IsMade holds room s s1 x z (keeps_trans IsMade holds room s mid s1 k k1) made aim.target in
      let h2 = target_on IsMade holds room s s2 x z (keeps_trans IsMade holds room s mid s2 k k4) made aim.target in
      let h3 = target_on IsMade holds room s s3 x z (keeps_trans IsMade holds room s mid s3 k k5) made aim.target in
      let choice = are z.view aim.seen in
      let bs : List Place = map (place_in n) b in
      let must : Place → Bool = λ q. must_hold w z.view.kept (z.view.state a) cond (bind_place bs var q) in
      let may_be : Place → Bool = λ q. may_hold w z.view.kept (z.view.state a) cond (bind_place bs var q) in
      let out : Place → Bool = λ q. must q && not (is_among z.every q) in
      let same : Place → Bool = λ q. must q && same_place q (z.value a) in
      let among : Bool = is_among z.every (z.value a) in
      let empty : holds s1 none a ≡ (list_all (λ q. not (may_be q)) (places_in w over) && among) =
      nothing n a ∙ (ap not (ap (any_offer n holds mid a (λ u. true)) e ∙ choice.possible a (λ u. true)) ∙ (none_all may_be (places_in w over) ∙ known (list_all (λ q. not (may_be q)) (places_in w over)) among (aim.target.of_type a))) in
      let beyond : any_offer n holds s1 a (given_test holds s1 a n x sense.Outside) named ≡ (list_any out (named_in w over) && among) =
      ap (any_offer n holds s1 a (given_test holds s1 a n x sense.Outside)) f ∙ (offers_same n IsMade holds room a (given_test holds s1 a n x sense.Outside) mid s1 c.named k1 listed ∙ (choice.named a (given_test holds s1 a n x sense.Outside) ∙ (asked s1 x z h1 a sense.Outside must_hold b var cond (named_in w over) ∙ known (list_any out (named_in w over)) among (aim.target.of_type a)))) in
      let at_named : any_offer n holds s2 a (given_test holds s2 a n x sense.Exactly) named ≡ list_any same (named_in w over) =
      ap (any_offer n holds s2 a (given_test holds s2 a n x sense.Exactly)) f ∙ (offers_same n IsMade holds room a (given_test holds s2 a n x sense.Exactly) mid s2 c.named k4 listed ∙ (choice.named a (given_test holds s2 a n x sense.Exactly) ∙ asked s2 x z h2 a sense.Exactly must_hold b var cond (named_in w over))) in
      let at_rests : any_offer n holds s3 a (given_test holds s3 a n x sense.Exactly) rests ≡ list_any same (rests_in w over) =
      ap (any_offer n holds s3 a (given_test holds s3 a n x sense.Exactly)) g ∙ (offers_same n IsMade holds room a (given_test holds s3 a n x sense.Exactly) mid s3 c.rests k5 listed_rests ∙ (choice.rests a (given_test holds s3 a n x sense.Exactly) ∙ asked s3 x z h3 a sense.Exactly must_hold b var cond (rests_in w over))) in
      whole w aim.seen.world a
      ∙ (or_same (heres w aim.seen.world a ∙ or_same (outsides w aim.seen.world a ∙ or_same empty beyond) at_named) at_rests
      ∙ (four (list_all (λ q. not (may_be q)) (places_in w over) && among) (list_any out (named_in w over) && among) (list_any same (named_in w over)) (list_any same (rests_in w over))
      ∙ (ap (λ c. (list_all (λ q. not (may_be q)) (places_in w over) && among) || ((list_any out (named_in w over) && among) || c)) (sym (list_any-append same (named_in w over) (rests_in w over)))
      ∙ sym (must_Each w z.view.kept (z.view.state a) z.every var over cond at bs (z.value a)))))
    where
      four : (b c d e : Bool) → (((b || c) || d) || e) ≡ (b || (c || (d || e)))
      four true c d e = refl
      four false true d e = refl
      four false false d e = refl
