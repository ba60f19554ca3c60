-- `in`.
use Rattle.std.proofs.Common.{◌≡◌, ℕ, ◌+◌, ◌-◌, List, [], ◌∷◌, ◌++◌, map, Some, Bool, true, false, ◌&&◌, ◌||◌, refl, sym, ap, ◌∙◌, subst}
use Rattle.std.specs.List.{list_any, list_all, flat_map}
use Rattle.std.proofs.lemmas.List.{append-nil}
use Rattle.law_lists.proofs.Anys.{any-agree}
use Rattle.smv_core.specs.Values.{Truth, number, numbers_from, disjunction}
use Rattle.smv_core.specs.FlatMeaning.{Numbered}
use Rattle.smv_core.specs.Outcome.{is_true}
use Rattle.smv_core.specs.declared.tree.Span.{Span}
use Rattle.smv_core.specs.declared.tree.Op.TheVariants.{Equal}
use Rattle.smv_core.specs.declared.flat.FlatExpr.{FlatExpr, Within, List as ListOf, List', out-FlatExpr, roll-FlatExpr, roll-out-FlatExpr, Row_of-FlatMember, end_of-FlatMember, more_of-FlatMember, items-the_row-FlatMember, items_shown-the_row-FlatMember-3}
use Rattle.smv_core.specs.declared.flat.FlatMember.{FlatMember, One, Span as SpanOf}
use Rattle.law_obligations.specs.Right.{is_false, is_neither}
use Rattle.law_obligations.specs.Sets.{one_of_each, pairs}
use Rattle.law_obligations.specs.Places.{Place, named, AbsOutcome, may_compare, equal_places, where_defined}
use Rattle.law_obligations.specs.May.{seen, shown, may, may_listed, may_members}
use Rattle.law_obligations.specs.Mix.{Mix, mix_by, or_all, is_there}
use Rattle.law_obligations.specs.Combined.{equal_mix, member_mix, within_mix}
use Rattle.law_obligations.proofs.MixLaws.{same_mix, shown-by}
use Rattle.law_obligations.proofs.MayLaws.{may-Within, may-listed}
use Rattle.law_obligations.proofs.WithinLaws.{mix-within, within-shown}
use Rattle.smv_spots.specs.declared.spots.Spot.{Spot}
use Rattle.smv_spots.specs.Spots.{place_in}
use Rattle.smv_conditions.specs.declared.offers.Offer.{Offer}
use Rattle.smv_conditions.specs.declared.offers.May.TheVariants.{Truths}
use Rattle.smv_conditions.specs.declared.chances.Chances.{Chances}
use Rattle.smv_conditions.specs.Keep.{KeepsConditions}
use Rattle.smv_conditions.specs.Chances.{mix_at}
use Rattle.smv_conditions.specs.Offers.{any_offer, Offers, AreOffersMade}
use Rattle.smv_conditions.proofs.AddLaws.{offers_same}
use Rattle.smv_cells.specs.Seen.{View, IsView, outcomes}
use Rattle.smv_outcome_lists.specs.Pairs.{compare_each}
use Rattle.smv_outcome_lists.specs.Lists.{member_at, within_at}
use Rattle.smv_outcomes.specs.Outcomes.{member_in, IsMayOf, AreOffersOf, AreMembersOf, AddsMember, AreListedIn}
use Rattle.smv_outcomes.proofs.ExpressionLaws.{shown_offers}
use Rattle.smv_outcomes.proofs.ElementLaws.{never, heads, tails}

-- what one outcome may give against one of each of the members
abbrev within_truths : AbsOutcome → List AbsOutcome → List Truth
within_truths u vs = map disjunction (one_of_each (map (where_defined equal_places u) vs))

-- each member has an outcome
numbers_there : (ks : List ℕ) (xss : List (List AbsOutcome)) → list_all is_there (map (λ k. Some (named (number k)) ∷ []) ks ++ xss) ≡ list_all is_there xss
numbers_there [] xss = refl
numbers_there (k ∷ ks) xss = numbers_there ks xss

members_there : (v : View) → IsView v → (a : ℕ → Bool) {m : _} (row : Row_of-FlatMember m) (bs : List Place) → list_all is_there (may_members v.world v.kept (v.state a) row bs) ≡ true
members_there v view a end_of-FlatMember bs = refl
members_there v view a (more_of-FlatMember (One e) others) bs = ap (λ b. b && list_all is_there (may_members v.world v.kept (v.state a) others bs)) (view.filled a e bs) ∙ members_there v view a others bs
members_there v view a (more_of-FlatMember (SpanOf span at) others) bs = numbers_there (numbers_from span.low (span.high + 1 - span.low)) (may_members v.world v.kept (v.state a) others bs) ∙ members_there v view a others bs

listed_there : (v : View) → IsView v → (a : ℕ → Bool) (set : FlatExpr) (bs : List Place) → list_all is_there (may_listed v.world v.kept (v.state a) set bs) ≡ true
listed_there v view a (List' shape members at) bs = members_there v view a members bs
listed_there v view a _ bs = refl

-- what is no list has no member
unfoldable showing : Unit {0}
unfolding roll-FlatExpr out-FlatExpr Rattle.smv_core.specs.declared.flat.FlatExpr.TheBlock.shown-the_row-FlatExpr-0 Rattle.smv_core.specs.declared.flat.FlatExpr.TheBlock.shown-the_row-FlatExpr-1 Rattle.smv_core.specs.declared.flat.FlatExpr.TheBlock.shown-the_row-FlatMember-3 Rattle.smv_core.specs.declared.flat.FlatExpr.TheBlock.shown-the_row-FlatSigned-2 Rattle.smv_core.specs.declared.flat.FlatExpr.TheBlock.hidden-the_row-FlatExpr-0 Rattle.smv_core.specs.declared.flat.FlatExpr.TheBlock.hidden-the_row-FlatExpr-1 Rattle.smv_core.specs.declared.flat.FlatExpr.TheBlock.hidden-the_row-FlatMember-3 Rattle.smv_core.specs.declared.flat.FlatExpr.TheBlock.hidden-the_row-FlatSigned-2 Rattle.smv_core.specs.declared.flat.FlatExpr.TheBlock.shape-the_row-FlatExpr-0 Rattle.smv_core.specs.declared.flat.FlatExpr.TheBlock.shape-the_row-FlatExpr-1 Rattle.smv_core.specs.declared.flat.FlatExpr.TheBlock.shape-the_row-FlatMember-3 Rattle.smv_core.specs.declared.flat.FlatExpr.TheBlock.shape-the_row-FlatSigned-2 denote.Hole.Carrier.roll denote.Hole.Carrier.out denote.Hole.Carrier.shown denote.Hole.Carrier.hidden
showing = tt

list-list : (shape : _) (row : _) (at : ℕ) → ListOf (items-the_row-FlatMember _ row) at ≡ List' shape row at
unfolding showing
list-list shape row at = sym (ap (λ l. ListOf l at) (items_shown-the_row-FlatMember-3 shape row)) ∙ roll-out-FlatExpr (List' shape row at)

none_listed : (v : View) (a : ℕ → Bool) (set : FlatExpr) (bs : List Place) → ((members : List FlatMember) (at : ℕ) → set ≡ ListOf members at → ⊥) → may_listed v.world v.kept (v.state a) set bs ≡ []
none_listed v a (List' shape row at) bs h = absurd (h (items-the_row-FlatMember _ row) at (sym (list-list shape row at)))
none_listed v a _ bs h = refl

pub no_members : {S C : Type 0} (holds : S → C → (ℕ → Bool) → Bool) (s : S) (v : View) (set : FlatExpr) (b : List Spot) (each : List (List (Offer C))) → each ≡ [] → ((members : List FlatMember) (at : ℕ) → set ≡ ListOf members at → ⊥) → AreListedIn holds s v b set each
unfolding AreListedIn
no_members holds s v set b each e h a p = ap (map (any_offer v.world.classes holds s a p)) e ∙ ap (map (list_any p)) (sym (none_listed v a set (map (place_in v.world.classes) b) h))

module _ {S C : Type 0} (n : Numbered) (holds : S → C → (ℕ → Bool) → Bool) (s : S) (a : ℕ → Bool) where
  -- one outcome against the members
  members-same : (u : AbsOutcome) (vss : List (List (Offer C))) (all : List (List AbsOutcome)) → ((q : AbsOutcome → Bool) → map (any_offer n holds s a q) vss ≡ map (list_any q) all) → map (compare_each n holds s a Equal u) vss ≡ map (equal_mix u) all
  unfolding compare_each
  members-same u [] [] e = refl
  members-same u [] (xs ∷ all) e = absurd (never _ _ (e (λ u. true)))
  members-same u (vs ∷ vss) [] e = absurd (never _ _ (sym (e (λ u. true))))
  members-same u (vs ∷ vss) (xs ∷ all) e = ap (λ m. m ∷ map (compare_each n holds s a Equal u) vss) here ∙ ap (λ ms. equal_mix u xs ∷ ms) (members-same u vss all (λ q. tails _ _ _ _ (e q)))
    where
      first : (q : AbsOutcome → Bool) → any_offer n holds s a q vs ≡ list_any q xs
      first q = heads _ _ _ _ (e q)

      here : compare_each n holds s a Equal u vs ≡ equal_mix u xs
      here = same_mix (first (λ v. list_any is_false (may_compare Equal u v))) (first (λ v. list_any is_true (may_compare Equal u v))) (first (λ v. list_any is_neither (may_compare Equal u v)))

  member-same : (u : AbsOutcome) (vss : List (List (Offer C))) (all : List (List AbsOutcome)) → ((q : AbsOutcome → Bool) → map (any_offer n holds s a q) vss ≡ map (list_any q) all) → member_at n holds s a u vss ≡ member_mix all u
  unfolding member_at
  member-same u vss all e = ap or_all (members-same u vss all e)

  pub within-same : (us : List (Offer C)) (xs : List AbsOutcome) (vss : List (List (Offer C))) (all : List (List AbsOutcome)) → ((q : AbsOutcome → Bool) → any_offer n holds s a q us ≡ list_any q xs) → ((q : AbsOutcome → Bool) → map (any_offer n holds s a q) vss ≡ map (list_any q) all) →
      within_at n holds s a us vss ≡ within_mix xs all
  unfolding within_at
  within-same us xs vss all d e = same_mix
      (d (λ u. (member_at n holds s a u vss).no) ∙ any-agree (λ u. (member_at n holds s a u vss).no) (λ u. (member_mix all u).no) xs (λ u. ap (λ (m : Mix). m.no) (member-same u vss all e)))
      (d (λ u. (member_at n holds s a u vss).yes) ∙ any-agree (λ u. (member_at n holds s a u vss).yes) (λ u. (member_mix all u).yes) xs (λ u. ap (λ (m : Mix). m.yes) (member-same u vss all e)))
      (d (λ u. (member_at n holds s a u vss).neither) ∙ any-agree (λ u. (member_at n holds s a u vss).neither) (λ u. (member_mix all u).neither) xs (λ u. ap (λ (m : Mix). m.neither) (member-same u vss all e)))

pub members_listed : {S C : Type 0} (holds : S → C → (ℕ → Bool) → Bool) (s : S) (v : View) (set : FlatExpr) (members shown : List FlatMember) (at : ℕ) (b : List Spot) (each : List (List (Offer C))) → set ≡ ListOf members at → shown ≡ members → AreMembersOf holds s v b shown [] each → AreListedIn holds s v b set each
unfolding AreMembersOf AreListedIn member_in
members_listed holds s v set members shown at b each is e are a p =
    sym (append-nil (map (any_offer v.world.classes holds s a p) each))
    ∙ (are a p
    ∙ (ap (λ l. map (list_any p) (flat_map (member_in v a b) l)) e
    ∙ (ap (map (list_any p)) (sym (may-listed v.world v.kept (v.state a) members at (map (place_in v.world.classes) b))) ∙ ap (λ x. map (list_any p) (may_listed v.world v.kept (v.state a) x (map (place_in v.world.classes) b))) (sym is))))

pub numbers_added : {S C : Type 0} (holds : S → C → (ℕ → Bool) → Bool) (t : S) (v : View) (b : List Spot) (m : FlatMember) (span : Span) (at : ℕ) (low high : ℕ) (old new : List (List (Offer C))) → m ≡ SpanOf span at → low ≡ span.low → high ≡ span.high →
    ((n : Numbered) (p : AbsOutcome → Bool) (a : ℕ → Bool) → map (any_offer n holds t a p) new ≡ map (any_offer n holds t a p) old ++ map (λ k. p (Some (named (number k)))) (numbers_from low (high + 1 - low))) → AddsMember holds t v b m old new
unfolding AddsMember member_in
numbers_added holds t v b m span at low high old new is e f made a p =
    made v.world.classes p a
    ∙ ap (λ l. map (any_offer v.world.classes holds t a p) old ++ l)
    (ap (λ k. map (λ k. p (Some (named (number k)))) (numbers_from k (high + 1 - k))) e
    ∙ (ap (λ k. map (λ k. p (Some (named (number k)))) (numbers_from span.low (k + 1 - span.low))) f
    ∙ (singles (numbers_from span.low (span.high + 1 - span.low)) ∙ ap (λ x. map (list_any p) (member_in v a b x)) (sym is))))
  where
    one : (b : Bool) → b ≡ (b || false)
    one true = refl
    one false = refl

    singles : (ks : List ℕ) → map (λ k. p (Some (named (number k)))) ks ≡ map (list_any p) (map (λ k. Some (named (number k)) ∷ []) ks)
    singles [] = refl
    singles (k ∷ ks) = ap (λ x. x ∷ map (λ k. p (Some (named (number k)))) ks) (one (p (Some (named (number k))))) ∙ ap (λ l. list_any p (Some (named (number k)) ∷ []) ∷ l) (singles ks)

module _ {S C : Type 0} (IsMade : S → C → Type 0) (holds : S → C → (ℕ → Bool) → Bool) (room : S → ℕ) where
  pub within_of_it : (s1 s2 t : S) (v : View) → IsView v → (whole left set l r : FlatExpr) (b : List Spot) (us us' : List (Offer C)) (vss vss' : List (List (Offer C))) (z : Chances C) → whole ≡ Within left set → l ≡ left → r ≡ set → us' ≡ us → vss' ≡ vss → KeepsConditions IsMade holds room s1 s2 →
      AreOffersMade (IsMade s1) us → AreOffersOf holds s1 v l b us → AreListedIn holds s2 v b r vss → ((a : ℕ → Bool) → mix_at holds t a z ≡ within_at v.world.classes holds s2 a us' vss') → IsMayOf holds t v whole b (Truths z)
  unfolding IsMayOf AreOffersOf AreListedIn outcomes
  within_of_it s1 s2 t v view whole left set l r b us us' vss vss' z is e f d d' k m hu hv mix a =
      let n : Numbered = v.world.classes in
      let bs : List Place = map (place_in n) b in
      let xs : List AbsOutcome = may v.world v.kept (v.state a) left bs in
      let all : List (List AbsOutcome) = may_listed v.world v.kept (v.state a) set bs in
      let firsts : (q : AbsOutcome → Bool) → any_offer n holds s2 a q us' ≡ list_any q xs = λ q. ap (any_offer n holds s2 a q) d ∙ (offers_same n IsMade holds room a q s1 s2 us k m ∙ (hu a q ∙ ap (λ g. list_any q (may v.world v.kept (v.state a) g bs)) e)) in
      let lists : (q : AbsOutcome → Bool) → map (any_offer n holds s2 a q) vss' ≡ map (list_any q) all = λ q. ap (map (any_offer n holds s2 a q)) d' ∙ (hv a q ∙ ap (λ g. map (list_any q) (may_listed v.world v.kept (v.state a) g bs)) f) in
      let made : mix_at holds t a z ≡ within_mix xs all = mix a ∙ within-same n holds s2 a us' xs vss' all firsts lists in
      let filled : list_all is_there all ≡ true = listed_there v view a set bs in
      let outs : List AbsOutcome = pairs (λ u vs. map (λ ts. shown (disjunction ts)) (one_of_each (map (where_defined equal_places u) vs))) xs (one_of_each all) in
      let done : Offers n holds t a (Truths z) outs = shown_offers holds n t a z outs (pairs within_truths xs (one_of_each all)) (within-shown xs all) (made ∙ (sym (mix-within xs all filled) ∙ sym (ap (mix_by seen) (within-shown xs all) ∙ shown-by (λ t. t) (pairs within_truths xs (one_of_each all))))) in
      subst (λ g. Offers n holds t a (Truths z) (may v.world v.kept (v.state a) g bs)) (sym is) (subst (Offers n holds t a (Truths z)) (sym (may-Within v.world v.kept (v.state a) left set bs)) done)
