-- What conditions say of expressions.
use Rattle.std.proofs.Common.{◌≡◌, ℕ, List, [], ◌∷◌, map, Option, Some, None, Bool, true, false, ◌&&◌, ◌||◌, refl, sym, ap, ◌∙◌, subst, slice_get, get_or}
use Rattle.std.specs.List.{flat_map, list_any, list_all}
use Rattle.std.specs.Option.{option_map}
use Rattle.std.proofs.lemmas.Option.{slice_get-map}
use Rattle.std.proofs.lemmas.List.{append-nil}
use Rattle.law_lists.proofs.Anys.{any-map, any-flat_map, any-agree}
use Rattle.smv_core.specs.Values.{Truth, constant, modulo, not_of, iff_of, conjunction, disjunction, implication}
use Rattle.smv_core.specs.FlatMeaning.{Numbered}
use Rattle.smv_core.specs.Outcome.{is_true, branch}
use Rattle.smv_core.specs.declared.tree.Op.{Op}
use Rattle.smv_core.specs.declared.flat.FlatExpr.{FlatExpr, Not, And, Or, Implies, Number, Loop, Var, Constant, Iff, Compare, Choose, Modulo, List as ListOf, Each}
use Rattle.smv_core.specs.declared.flat.FlatMember.{FlatMember}
use Rattle.smv_core.specs.declared.flat.Simple.{Simple}
use Rattle.law_obligations.specs.Right.{is_false, is_neither}
use Rattle.law_obligations.specs.Places.{AbsOutcome, valued, as_place, may_compare}
use Rattle.law_obligations.specs.May.{seen, shown, may}
use Rattle.law_obligations.specs.Sets.{one_of_each, pairs}
use Rattle.law_obligations.specs.Mix.{Mix, mix_by, not_mix, iff_mix, and_all, or_all, implies_all, shown_of, is_there}
use Rattle.law_obligations.specs.Combined.{branch_any}
use Rattle.law_obligations.proofs.GiveLaws.{mix-compare}
use Rattle.law_obligations.proofs.MixLaws.{same_mix, any-shown, shown-any, shown-by, not-by, mix-conjunction, mix-disjunction, mix-implication}
use Rattle.law_obligations.proofs.WalkLaws.{any-branch}
use Rattle.law_obligations.proofs.MayLaws.{may-Not, may-And, may-Or, may-Implies, may-Iff, may-Compare, may-Choose, may-Modulo}
use Rattle.law_obligations.proofs.IffLaws.{mix-iff, pairs-map}
use Rattle.smv_spots.specs.declared.spots.Spot.{Spot}
use Rattle.smv_spots.specs.declared.spots.Spot.TheVariants as spot
use Rattle.smv_spots.specs.Spots.{place_in, outcome_in}
use Rattle.smv_conditions.specs.declared.offers.Offer.{Offer}
use Rattle.smv_conditions.specs.declared.offers.May.{May}
use Rattle.smv_conditions.specs.declared.offers.May.TheVariants.{Truths, Values}
use Rattle.smv_conditions.specs.declared.chances.Chances.{Chances}
use Rattle.smv_conditions.specs.declared.chances.Join.TheVariants as join
use Rattle.smv_conditions.specs.Keep.{KeepsConditions}
use Rattle.smv_conditions.specs.Chances.{mix_at, AreMade}
use Rattle.smv_conditions.specs.Chain.{chain}
use Rattle.smv_conditions.specs.Offers.{offers_mix, may_mix, any_offer, any_may, Offers, AreOffersMade}
use Rattle.smv_conditions.proofs.AddLaws.{offers_same, offers_kept}
use Rattle.smv_conditions.proofs.ChainLaws.{mix_kept}
use Rattle.smv_cells.specs.Seen.{View, IsView, outcomes}
use Rattle.smv_outcome_lists.specs.Pairs.{compare_mix}
use Rattle.smv_outcomes.specs.Outcomes.{mix_in, IsMayOf, AreOffersOf, IsTruthOf, AreTruthsOf}

module _ {S C : Type 0} (holds : S → C → (ℕ → Bool) → Bool) where
  -- the truth values among what is offered
  mix-offers : (n : Numbered) (s : S) (a : ℕ → Bool) (m : May C) (us : List AbsOutcome) → Offers n holds s a m us → may_mix n holds s a m ≡ mix_by seen us
  unfolding Offers may_mix any_may offers_mix
  mix-offers n s a (Truths x) us o = same_mix (sym (no (mix_at holds s a x)) ∙ o (λ u. is_false (seen u))) (sym (yes (mix_at holds s a x)) ∙ o (λ u. is_true (seen u))) (sym (neither (mix_at holds s a x)) ∙ o (λ u. is_neither (seen u)))
    where
      no : (m : Mix) → list_any (λ u. is_false (seen u)) (shown_of m) ≡ m.no
      no m = any-shown (λ u. is_false (seen u)) m.no m.yes m.neither ∙ at m.no m.yes m.neither
        where
          at : (x y z : Bool) → ((x && true) || ((y && false) || (z && false))) ≡ x
          at true y z = refl
          at false true true = refl
          at false true false = refl
          at false false true = refl
          at false false false = refl

      yes : (m : Mix) → list_any (λ u. is_true (seen u)) (shown_of m) ≡ m.yes
      yes m = any-shown (λ u. is_true (seen u)) m.no m.yes m.neither ∙ at m.no m.yes m.neither
        where
          at : (x y z : Bool) → ((x && false) || ((y && true) || (z && false))) ≡ y
          at true true z = refl
          at true false true = refl
          at true false false = refl
          at false true z = refl
          at false false true = refl
          at false false false = refl

      neither : (m : Mix) → list_any (λ u. is_neither (seen u)) (shown_of m) ≡ m.neither
      neither m = any-shown (λ u. is_neither (seen u)) m.no m.yes m.neither ∙ at m.no m.yes m.neither
        where
          at : (x y z : Bool) → ((x && false) || ((y && false) || (z && true))) ≡ z
          at true true true = refl
          at true true false = refl
          at true false true = refl
          at true false false = refl
          at false true true = refl
          at false true false = refl
          at false false true = refl
          at false false false = refl
  mix-offers n s a (Values os) us o = same_mix (o (λ u. is_false (seen u))) (o (λ u. is_true (seen u))) (o (λ u. is_neither (seen u)))

  pub truth_is : (s t : S) (v : View) (e : FlatExpr) (b : List Spot) (m : May C) (x : Chances C) →
      IsMayOf holds s v e b m → ((n : Numbered) (a : ℕ → Bool) → mix_at holds t a x ≡ may_mix n holds s a m) → IsTruthOf holds t v e b x
  unfolding IsMayOf IsTruthOf mix_in
  truth_is s t v e b m x is mix a = mix v.world.classes a ∙ mix-offers v.world.classes s a m (outcomes v a e b) (is a)

  pub offers_are : (s t : S) (v : View) (e : FlatExpr) (b : List Spot) (m : May C) (offers : List (Offer C)) →
      IsMayOf holds s v e b m → ((n : Numbered) (p : AbsOutcome → Bool) (a : ℕ → Bool) → any_offer n holds t a p offers ≡ any_may n holds s a p m) → AreOffersOf holds t v e b offers
  unfolding IsMayOf AreOffersOf Offers
  offers_are s t v e b m offers is same a p = same v.world.classes p a ∙ is a p

  -- truth values that are shown are offered
  pub offers-shown : {X : Type 0} (n : Numbered) (s : S) (a : ℕ → Bool) (z : Chances C) (f : X → Truth) (xs : List X) → mix_at holds s a z ≡ mix_by f xs → Offers n holds s a (Truths z) (map (λ x. shown (f x)) xs)
  unfolding Offers any_may
  offers-shown n s a z f xs e p = ap (λ m. list_any p (shown_of m)) e ∙ sym (shown-any f xs p)

  -- a list of truth values that are shown
  pub shown_offers : (n : Numbered) (s : S) (a : ℕ → Bool) (z : Chances C) (us : List AbsOutcome) (ts : List Truth) → us ≡ map shown ts → mix_at holds s a z ≡ mix_by seen us → Offers n holds s a (Truths z) us
  shown_offers n s a z us ts e h = subst (Offers n holds s a (Truths z)) (sym e) (offers-shown n s a z (λ t. t) ts (h ∙ (ap (mix_by seen) e ∙ shown-by (λ t. t) ts)))

  pub not_of_it : (s : S) (v : View) (e shown_e whole : FlatExpr) (at : ℕ) (b : List Spot) (x z : Chances C) → whole ≡ Not e at → shown_e ≡ e → IsTruthOf holds s v shown_e b x →
      z.no ≡ x.yes → z.yes ≡ x.no → z.neither ≡ x.neither → IsMayOf holds s v whole b (Truths z)
  unfolding IsMayOf IsTruthOf mix_in outcomes mix_at
  not_of_it s v e shown_e whole at b x z is value truth n y o a =
      let truth' : IsTruthOf holds s v e b x = subst (λ f. IsTruthOf holds s v f b x) value truth in
      let us : List AbsOutcome = outcomes v a e b in
      let m : mix_at holds s a z ≡ mix_by (λ u. not_of (seen u)) us = same_mix (ap (λ c. holds s c a) n) (ap (λ c. holds s c a) y) (ap (λ c. holds s c a) o) ∙ (ap not_mix (truth' a) ∙ sym (not-by seen us)) in
      let done : Offers v.world.classes holds s a (Truths z) (outcomes v a (Not e at) b) = subst (Offers v.world.classes holds s a (Truths z)) (sym (may-Not v.world v.kept (v.state a) e at (map (place_in v.world.classes) b))) (offers-shown v.world.classes s a z (λ u. not_of (seen u)) us m) in
      subst (λ f. Offers v.world.classes holds s a (Truths z) (outcomes v a f b)) (sym is) done

  -- one outcome that is always possible
  pub one_outcome : (s : S) (v : View) (whole form : FlatExpr) (b : List Spot) (o : Option Spot) (m : May C) → whole ≡ form → ((a : ℕ → Bool) → outcome_in v.world.classes o ∷ [] ≡ outcomes v a form b) →
      ((n : Numbered) (a : ℕ → Bool) → Offers n holds s a m (outcome_in n o ∷ [])) → IsMayOf holds s v whole b m
  unfolding IsMayOf
  one_outcome s v whole form b o m is same offers a = subst (λ f. Offers v.world.classes holds s a m (outcomes v a f b)) (sym is) (subst (Offers v.world.classes holds s a m) (same a) (offers v.world.classes a))

  pub number_of : (s : S) (v : View) (whole : FlatExpr) (value at : ℕ) (b : List Spot) (m : May C) → whole ≡ Number value at →
      ((n : Numbered) (a : ℕ → Bool) → Offers n holds s a m (outcome_in n (Some (spot.Number value)) ∷ [])) → IsMayOf holds s v whole b m
  unfolding outcomes
  number_of s v whole value at b m is o = one_outcome s v whole (Number value at) b (Some (spot.Number value)) m is (λ a. refl) o

  pub loop_of : (s : S) (v : View) (whole : FlatExpr) (value at : ℕ) (b : List Spot) (m : May C) → whole ≡ Loop value at →
      ((n : Numbered) (a : ℕ → Bool) → Offers n holds s a m (outcome_in n (Some (spot.Number value)) ∷ [])) → IsMayOf holds s v whole b m
  unfolding outcomes
  loop_of s v whole value at b m is o = one_outcome s v whole (Loop value at) b (Some (spot.Number value)) m is (λ a. refl) o

  pub var_of : (s : S) (v : View) (whole : FlatExpr) (var at : ℕ) (b : List Spot) (o : Option Spot) (m : May C) → whole ≡ Var var at → o ≡ slice_get b var →
      ((n : Numbered) (a : ℕ → Bool) → Offers n holds s a m (outcome_in n o ∷ [])) → IsMayOf holds s v whole b m
  unfolding outcomes
  var_of s v whole var at b o m is e offers =
      let there : outcome_in v.world.classes o ≡ slice_get (map (place_in v.world.classes) b) var = ap (outcome_in v.world.classes) e ∙ sym (slice_get-map (place_in v.world.classes) b var) in
      one_outcome s v whole (Var var at) b o m is (λ a. ap (λ u. u ∷ []) there) offers

  pub constant_of : (s : S) (v : View) (whole : FlatExpr) (list value at : ℕ) (b : List Spot) (o : Option Spot) (m : May C) → whole ≡ Constant list value at →
      outcome_in v.world.classes o ≡ as_place (option_map constant (slice_get (get_or v.world.classes.enums list []) value)) → ((n : Numbered) (a : ℕ → Bool) → Offers n holds s a m (outcome_in n o ∷ [])) → IsMayOf holds s v whole b m
  unfolding outcomes
  constant_of s v whole list value at b o m is e offers = one_outcome s v whole (Constant list value at) b o m is (λ a. ap (λ u. u ∷ []) e) offers

  -- the outcomes of these expressions
  abbrev pub all_of : View → (ℕ → Bool) → List Spot → List FlatExpr → List (List AbsOutcome)
  all_of v a b es = map (λ e. may v.world v.kept (v.state a) e (map (place_in v.world.classes) b)) es

  pub all-filled : (v : View) → IsView v → (a : ℕ → Bool) (b : List Spot) (es : List FlatExpr) → list_all is_there (all_of v a b es) ≡ true
  unfolding outcomes
  all-filled v view a b [] = refl
  all-filled v view a b (e ∷ es) = ap (λ x. x && list_all is_there (all_of v a b es)) (view.filled a e (map (place_in v.world.classes) b)) ∙ all-filled v view a b es

  all-mixes : (v : View) (a : ℕ → Bool) (b : List Spot) (es : List FlatExpr) → map (mix_by seen) (all_of v a b es) ≡ map (mix_in v a b) es
  unfolding mix_in outcomes
  all-mixes v a b [] = refl
  all-mixes v a b (e ∷ es) = ap (λ l. mix_by seen (may v.world v.kept (v.state a) e (map (place_in v.world.classes) b)) ∷ l) (all-mixes v a b es)

  -- the mixes of all parts, once all are there
  gathered : (s t : S) (v : View) → IsView v → (a : ℕ → Bool) (b : List Spot) (parts shown : List FlatExpr) (each seen_each : List (Chances C)) → shown ≡ parts → seen_each ≡ each → AreTruthsOf holds s v b shown [] each → map (mix_at holds s a) seen_each ≡ map (mix_in v a b) parts
  unfolding AreTruthsOf
  gathered s t v view a b parts shown each seen_each e f are = ap (map (mix_at holds s a)) f ∙ (sym (append-nil (map (mix_at holds s a) each)) ∙ (are a ∙ ap (map (mix_in v a b)) e))

  pub and_of_them : (s t : S) (v : View) → IsView v → (whole : FlatExpr) (parts shown : List FlatExpr) (b : List Spot) (each seen_each : List (Chances C)) (x : Chances C) → whole ≡ And parts → shown ≡ parts → seen_each ≡ each → AreTruthsOf holds s v b shown [] each →
      ((a : ℕ → Bool) → mix_at holds t a x ≡ chain join.And (map (mix_at holds s a) seen_each)) → IsMayOf holds t v whole b (Truths x)
  unfolding IsMayOf outcomes
  and_of_them s t v view whole parts shown b each seen_each x is e f are mix a =
      let m : mix_at holds t a x ≡ mix_by (λ us. conjunction (map seen us)) (one_of_each (all_of v a b parts)) = mix a ∙ (ap and_all (gathered s t v view a b parts shown each seen_each e f are ∙ sym (all-mixes v a b parts)) ∙ sym (mix-conjunction seen (all_of v a b parts) (all-filled v view a b parts))) in
      let done : Offers v.world.classes holds t a (Truths x) (outcomes v a (And parts) b) = subst (Offers v.world.classes holds t a (Truths x)) (sym (may-And v.world v.kept (v.state a) parts (map (place_in v.world.classes) b))) (offers-shown v.world.classes t a x (λ us. conjunction (map seen us)) (one_of_each (all_of v a b parts)) m) in
      subst (λ g. Offers v.world.classes holds t a (Truths x) (outcomes v a g b)) (sym is) done

  pub or_of_them : (s t : S) (v : View) → IsView v → (whole : FlatExpr) (parts shown : List FlatExpr) (b : List Spot) (each seen_each : List (Chances C)) (x : Chances C) → whole ≡ Or parts → shown ≡ parts → seen_each ≡ each → AreTruthsOf holds s v b shown [] each →
      ((a : ℕ → Bool) → mix_at holds t a x ≡ chain join.Or (map (mix_at holds s a) seen_each)) → IsMayOf holds t v whole b (Truths x)
  unfolding IsMayOf outcomes
  or_of_them s t v view whole parts shown b each seen_each x is e f are mix a =
      let m : mix_at holds t a x ≡ mix_by (λ us. disjunction (map seen us)) (one_of_each (all_of v a b parts)) = mix a ∙ (ap or_all (gathered s t v view a b parts shown each seen_each e f are ∙ sym (all-mixes v a b parts)) ∙ sym (mix-disjunction seen (all_of v a b parts) (all-filled v view a b parts))) in
      let done : Offers v.world.classes holds t a (Truths x) (outcomes v a (Or parts) b) = subst (Offers v.world.classes holds t a (Truths x)) (sym (may-Or v.world v.kept (v.state a) parts (map (place_in v.world.classes) b))) (offers-shown v.world.classes t a x (λ us. disjunction (map seen us)) (one_of_each (all_of v a b parts)) m) in
      subst (λ g. Offers v.world.classes holds t a (Truths x) (outcomes v a g b)) (sym is) done

  implication-all : {X : Type 0} (e : X → Truth) (xss : List (List X)) → list_all is_there xss ≡ true → mix_by (λ us. implication (map e us)) (one_of_each xss) ≡ implies_all (map (mix_by e) xss)
  implication-all e [] h = refl
  implication-all e (xs ∷ xss) h = mix-implication e xs xss h

  pub implied_of_them : (s t : S) (v : View) → IsView v → (whole : FlatExpr) (parts shown : List FlatExpr) (b : List Spot) (each seen_each : List (Chances C)) (x : Chances C) → whole ≡ Implies parts → shown ≡ parts → seen_each ≡ each → AreTruthsOf holds s v b shown [] each →
      ((a : ℕ → Bool) → mix_at holds t a x ≡ chain join.Implies (map (mix_at holds s a) seen_each)) → IsMayOf holds t v whole b (Truths x)
  unfolding IsMayOf outcomes
  implied_of_them s t v view whole parts shown b each seen_each x is e f are mix a =
      let m : mix_at holds t a x ≡ mix_by (λ us. implication (map seen us)) (one_of_each (all_of v a b parts)) = mix a ∙ (ap implies_all (gathered s t v view a b parts shown each seen_each e f are ∙ sym (all-mixes v a b parts)) ∙ sym (implication-all seen (all_of v a b parts) (all-filled v view a b parts))) in
      let done : Offers v.world.classes holds t a (Truths x) (outcomes v a (Implies parts) b) = subst (Offers v.world.classes holds t a (Truths x)) (sym (may-Implies v.world v.kept (v.state a) parts (map (place_in v.world.classes) b))) (offers-shown v.world.classes t a x (λ us. implication (map seen us)) (one_of_each (all_of v a b parts)) m) in
      subst (λ g. Offers v.world.classes holds t a (Truths x) (outcomes v a g b)) (sym is) done

module _ {S C : Type 0} (IsMade : S → C → Type 0) (holds : S → C → (ℕ → Bool) → Bool) (room : S → ℕ) where
  pub all_kept : (s t : S) (os : List (Offer C)) → KeepsConditions IsMade holds room s t → AreOffersMade (IsMade s) os → AreOffersMade (IsMade t) os
  all_kept s t os k m = offers_kept IsMade holds room s t os k m

  pub slice_made : (s t : S) (os shown : List (Offer C)) → shown ≡ os → KeepsConditions IsMade holds room s t → AreOffersMade (IsMade s) os → AreOffersMade (IsMade t) shown
  slice_made s t os shown e k m = subst (AreOffersMade (IsMade t)) (sym e) (offers_kept IsMade holds room s t os k m)

  pub iff_of_it : (s1 s2 t : S) (v : View) → IsView v → (whole left right l r : FlatExpr) (b : List Spot) (x y z : Chances C) → whole ≡ Iff left right → l ≡ left → r ≡ right → KeepsConditions IsMade holds room s1 s2 → AreMade (IsMade s1) x →
      IsTruthOf holds s1 v l b x → IsTruthOf holds s2 v r b y → ((a : ℕ → Bool) → mix_at holds t a z ≡ iff_mix (mix_at holds s2 a x) (mix_at holds s2 a y)) → IsMayOf holds t v whole b (Truths z)
  unfolding IsMayOf IsTruthOf mix_in outcomes
  iff_of_it s1 s2 t v view whole left right l r b x y z is e f k m hx hy mix a =
      let bs = map (place_in v.world.classes) b in
      let us : List AbsOutcome = may v.world v.kept (v.state a) left bs in
      let vs : List AbsOutcome = may v.world v.kept (v.state a) right bs in
      let all : List AbsOutcome = pairs (λ u v. shown (iff_of (seen u) (seen v)) ∷ []) us vs in
      let there : is_there us ≡ true = view.filled a left bs in
      let others : is_there vs ≡ true = view.filled a right bs in
      let lx : mix_at holds s2 a x ≡ mix_by seen us = mix_kept IsMade holds room a s1 s2 x k m ∙ (hx a ∙ ap (λ g. mix_by seen (may v.world v.kept (v.state a) g bs)) e) in
      let ly : mix_at holds s2 a y ≡ mix_by seen vs = hy a ∙ ap (λ g. mix_by seen (may v.world v.kept (v.state a) g bs)) f in
      let made : mix_at holds t a z ≡ mix_by seen all = mix a ∙ (ap (λ n. iff_mix n (mix_at holds s2 a y)) lx ∙ (ap (iff_mix (mix_by seen us)) ly ∙ sym (mix-iff us vs there others))) in
      let done : Offers v.world.classes holds t a (Truths z) all = shown_offers holds v.world.classes t a z all (pairs (λ u v. iff_of (seen u) (seen v) ∷ []) us vs) (pairs-map shown (λ u v. iff_of (seen u) (seen v) ∷ []) us vs) made in
      subst (λ g. Offers v.world.classes holds t a (Truths z) (may v.world v.kept (v.state a) g bs)) (sym is) (subst (Offers v.world.classes holds t a (Truths z)) (sym (may-Iff v.world v.kept (v.state a) left right bs)) done)

  -- a test of outcomes that were made before
  pub offers_then : (s t : S) (v : View) (e : FlatExpr) (b : List Spot) (us shown_us : List (Offer C)) (a : ℕ → Bool) (p : AbsOutcome → Bool) → shown_us ≡ us → KeepsConditions IsMade holds room s t → AreOffersMade (IsMade s) us → AreOffersOf holds s v e b us →
      any_offer v.world.classes holds t a p shown_us ≡ list_any p (outcomes v a e b)
  unfolding AreOffersOf
  offers_then s t v e b us shown_us a p e' k m h = ap (any_offer v.world.classes holds t a p) e' ∙ (offers_same v.world.classes IsMade holds room a p s t us k m ∙ h a p)

  pub offers_now : (s : S) (v : View) (e : FlatExpr) (b : List Spot) (us shown_us : List (Offer C)) (a : ℕ → Bool) (p : AbsOutcome → Bool) → shown_us ≡ us → AreOffersOf holds s v e b us → any_offer v.world.classes holds s a p shown_us ≡ list_any p (outcomes v a e b)
  unfolding AreOffersOf
  offers_now s v e b us shown_us a p e' h = ap (any_offer v.world.classes holds s a p) e' ∙ h a p

  pub compare_of_it : (s1 s2 t : S) (v : View) (op : Op) (whole left right l r : FlatExpr) (b : List Spot) (us vs us' vs' : List (Offer C)) (z : Chances C) →
      whole ≡ Compare op left right → l ≡ left → r ≡ right → us' ≡ us → vs' ≡ vs → KeepsConditions IsMade holds room s1 s2 → AreOffersMade (IsMade s1) us → AreOffersOf holds s1 v l b us → AreOffersOf holds s2 v r b vs →
      ((a : ℕ → Bool) → mix_at holds t a z ≡ compare_mix v.world.classes holds s2 a op us' vs') → IsMayOf holds t v whole b (Truths z)
  unfolding IsMayOf outcomes compare_mix
  compare_of_it s1 s2 t v op whole left right l r b us vs us' vs' z is e e' d d' k m hu hv mix a =
      let bs = map (place_in v.world.classes) b in
      let n = v.world.classes in
      let xs : List AbsOutcome = may v.world v.kept (v.state a) left bs in
      let ys : List AbsOutcome = may v.world v.kept (v.state a) right bs in
      let all : List AbsOutcome = pairs (λ u v. map shown (may_compare op u v)) xs ys in
      let part : (p : Truth → Bool) → any_offer n holds s2 a (λ u. any_offer n holds s2 a (λ w. list_any p (may_compare op u w)) vs') us' ≡ list_any (λ u. list_any (λ w. list_any p (may_compare op u w)) ys) xs =
      λ p. offers_then s1 s2 v l b us us' a (λ u. any_offer n holds s2 a (λ w. list_any p (may_compare op u w)) vs') d k m hu
      ∙ (ap (λ h. list_any (λ u. any_offer n holds s2 a (λ w. list_any p (may_compare op u w)) vs') (may v.world v.kept (v.state a) h bs)) e
      ∙ any-agree (λ u. any_offer n holds s2 a (λ w. list_any p (may_compare op u w)) vs') (λ u. list_any (λ w. list_any p (may_compare op u w)) ys) xs (λ u. offers_now s2 v r b vs vs' a (λ w. list_any p (may_compare op u w)) d' hv ∙ ap (λ h. list_any (λ w. list_any p (may_compare op u w)) (may v.world v.kept (v.state a) h bs)) e')) in
      let made : mix_at holds t a z ≡ mix_by seen all = mix a ∙ (same_mix (part is_false) (part is_true) (part is_neither) ∙ sym (mix-compare op xs ys)) in
      let done : Offers n holds t a (Truths z) all = shown_offers holds n t a z all (pairs (may_compare op) xs ys) (pairs-map shown (may_compare op) xs ys) made in
      subst (λ h. Offers n holds t a (Truths z) (may v.world v.kept (v.state a) h bs)) (sym is) (subst (Offers n holds t a (Truths z)) (sym (may-Compare v.world v.kept (v.state a) op left right bs)) done)

  one_more : (b : Bool) → (b || false) ≡ b
  one_more true = refl
  one_more false = refl

  branch_test : (p : AbsOutcome → Bool) (t : Truth) (xs ys : List AbsOutcome) → list_any p (branch (None ∷ []) t xs ys) ≡ branch (p None) t (list_any p xs) (list_any p ys)
  branch_test p (Some true) xs ys = refl
  branch_test p (Some false) xs ys = refl
  branch_test p None xs ys = one_more (p None)

  pub choose_of_it : (s1 s2 s3 t : S) (v : View) (whole cond left right c l r : FlatExpr) (b : List Spot) (x : Chances C) (us vs us' vs' offers : List (Offer C)) →
      whole ≡ Choose cond left right → c ≡ cond → l ≡ left → r ≡ right → us' ≡ us → vs' ≡ vs → KeepsConditions IsMade holds room s1 s2 → KeepsConditions IsMade holds room s2 s3 → AreMade (IsMade s1) x → AreOffersMade (IsMade s2) us →
      IsTruthOf holds s1 v c b x → AreOffersOf holds s2 v l b us → AreOffersOf holds s3 v r b vs →
      ((n : Numbered) (p : AbsOutcome → Bool) (a : ℕ → Bool) → any_offer n holds t a p offers ≡ branch_any (mix_at holds s3 a x) (any_offer n holds s3 a p us') (any_offer n holds s3 a p vs') (p None)) → (m : May C) → m ≡ Values offers → IsMayOf holds t v whole b m
  unfolding IsMayOf IsTruthOf mix_in outcomes Offers any_may
  choose_of_it s1 s2 s3 t v whole cond left right c l r b x us vs us' vs' offers is ec el er d d' k k' mx mu hx hu hv any m em a p =
      let bs = map (place_in v.world.classes) b in
      let n = v.world.classes in
      let cs : List AbsOutcome = may v.world v.kept (v.state a) cond bs in
      let xs : List AbsOutcome = may v.world v.kept (v.state a) left bs in
      let ys : List AbsOutcome = may v.world v.kept (v.state a) right bs in
      let kx : mix_at holds s3 a x ≡ mix_by seen cs = mix_kept IsMade holds room a s2 s3 x k' (record { no = k.made x.no mx.no; yes = k.made x.yes mx.yes; neither = k.made x.neither mx.neither }) ∙ (mix_kept IsMade holds room a s1 s2 x k mx ∙ (hx a ∙ ap (λ g. mix_by seen (may v.world v.kept (v.state a) g bs)) ec)) in
      let ku : any_offer n holds s3 a p us' ≡ list_any p xs = offers_then s2 s3 v l b us us' a p d k' mu hu ∙ ap (λ g. list_any p (may v.world v.kept (v.state a) g bs)) el in
      let kv : any_offer n holds s3 a p vs' ≡ list_any p ys = offers_now s3 v r b vs vs' a p d' hv ∙ ap (λ g. list_any p (may v.world v.kept (v.state a) g bs)) er in
      let law : list_any p (flat_map (λ u. branch (None ∷ []) (seen u) xs ys) cs) ≡ branch_any (mix_by seen cs) (list_any p xs) (list_any p ys) (p None) =
      any-flat_map p (λ u. branch (None ∷ []) (seen u) xs ys) cs ∙ (any-agree (λ u. list_any p (branch (None ∷ []) (seen u) xs ys)) (λ u. branch (p None) (seen u) (list_any p xs) (list_any p ys)) cs (λ u. branch_test p (seen u) xs ys) ∙ any-branch (list_any p xs) (list_any p ys) (p None) cs) in
      let done : any_offer n holds t a p offers ≡ list_any p (may v.world v.kept (v.state a) (Choose cond left right) bs) =
      any n p a ∙ (ap (λ y. branch_any y (any_offer n holds s3 a p us') (any_offer n holds s3 a p vs') (p None)) kx ∙ (ap (λ y. branch_any (mix_by seen cs) y (any_offer n holds s3 a p vs') (p None)) ku ∙ (ap (λ y. branch_any (mix_by seen cs) (list_any p xs) y (p None)) kv ∙ (sym law ∙ ap (list_any p) (sym (may-Choose v.world v.kept (v.state a) cond left right bs)))))) in
      ap (any_may n holds t a p) em ∙ (done ∙ ap (λ g. list_any p (may v.world v.kept (v.state a) g bs)) (sym is))

-- sets, and remainders
pub none_of_list : {S C : Type 0} (holds : S → C → (ℕ → Bool) → Bool) (s : S) (v : View) (whole : FlatExpr) (members : List FlatMember) (at : ℕ) (b : List Spot) (m : May C) → whole ≡ ListOf members at → ((n : Numbered) (a : ℕ → Bool) → Offers n holds s a m (outcome_in n None ∷ [])) → IsMayOf holds s v whole b m
unfolding outcomes
none_of_list holds s v whole members at b m is o = one_outcome holds s v whole (ListOf members at) b None m is (λ a. refl) o

pub none_of_each : {S C : Type 0} (holds : S → C → (ℕ → Bool) → Bool) (s : S) (v : View) (whole : FlatExpr) (var : ℕ) (over : Simple) (cond : Option FlatExpr) (at : ℕ) (b : List Spot) (m : May C) → whole ≡ Each var over cond at → ((n : Numbered) (a : ℕ → Bool) → Offers n holds s a m (outcome_in n None ∷ [])) → IsMayOf holds s v whole b m
unfolding outcomes
none_of_each holds s v whole var over cond at b m is o = one_outcome holds s v whole (Each var over cond at) b None m is (λ a. refl) o

pub modulo_of_it : {S C : Type 0} (holds : S → C → (ℕ → Bool) → Bool) (s1 t : S) (v : View) (whole part e : FlatExpr) (by at : ℕ) (b : List Spot) (us us' rest : List (Offer C)) → whole ≡ Modulo part by at → e ≡ part → us' ≡ us → AreOffersOf holds s1 v e b us →
    ((n : Numbered) (p : AbsOutcome → Bool) (a : ℕ → Bool) → any_offer n holds t a p rest ≡ any_offer n holds s1 a (λ u. p (as_place (modulo (valued u) by))) us') → (m : May C) → m ≡ Values rest → IsMayOf holds t v whole b m
unfolding IsMayOf AreOffersOf outcomes Offers any_may
modulo_of_it holds s1 t v whole part e by at b us us' rest is same shown h any m em a p =
    let n = v.world.classes in
    let bs = map (place_in n) b in
    let q : AbsOutcome → Bool = λ u. p (as_place (modulo (valued u) by)) in
    ap (any_may n holds t a p) em
    ∙ (any n p a
    ∙ (ap (any_offer n holds s1 a q) shown
    ∙ (h a q
    ∙ (ap (λ g. list_any q (may v.world v.kept (v.state a) g bs)) same
    ∙ (sym (any-map p (λ u. as_place (modulo (valued u) by)) (may v.world v.kept (v.state a) part bs))
    ∙ (ap (list_any p) (sym (may-Modulo v.world v.kept (v.state a) part by at bs)) ∙ ap (λ g. list_any p (may v.world v.kept (v.state a) g bs)) (sym is)))))))
