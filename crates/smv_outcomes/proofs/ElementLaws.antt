-- Elements that are read, and sums.
use Rattle.std.proofs.Common.{◌≡◌, ℕ, List, [], ◌∷◌, ◌++◌, map, Option, Some, None, Bool, true, false, ◌||◌, refl, sym, ap, ◌∙◌, slice_get}
use Rattle.std.specs.List.{list_any, list_all, flat_map}
use Rattle.std.proofs.lemmas.List.{append-nil}
use Rattle.law_lists.proofs.Anys.{any-flat_map, any-agree}
use Rattle.smv_core.specs.declared.flat.Simple.{Simple}
use Rattle.smv_core.specs.declared.flat.Family.{Family}
use Rattle.smv_core.specs.declared.flat.FlatExpr.{FlatExpr, Read, Sum}
use Rattle.smv_core.specs.declared.flat.FlatSigned.{FlatSigned}
use Rattle.law_obligations.specs.Sets.{one_of_each}
use Rattle.law_obligations.specs.Places.{Place, AbsOutcome, places_in}
use Rattle.law_obligations.specs.May.{may, may_read, places_at, place_within}
use Rattle.law_obligations.specs.Mix.{is_there}
use Rattle.law_obligations.specs.ReadOutcomes.{where_within, found, within_all, found_from}
use Rattle.law_obligations.specs.Combined.{sum_test}
use Rattle.law_obligations.proofs.MayLaws.{may-Read, may-Sum}
use Rattle.law_obligations.proofs.MixLaws.{there-choices}
use Rattle.law_obligations.proofs.ReadLaws.{found-within}
use Rattle.law_obligations.proofs.SumLaws.{any-summed}
use Rattle.smv_spots.specs.declared.spots.Spot.{Spot}
use Rattle.smv_spots.specs.Spots.{place_in}
use Rattle.smv_problem.specs.declared.problem.Problem.{Problem}
use Rattle.smv_conditions.specs.declared.offers.Offer.{Offer}
use Rattle.smv_conditions.specs.declared.offers.May.{May}
use Rattle.smv_conditions.specs.declared.offers.May.TheVariants.{Values}
use Rattle.smv_conditions.specs.Offers.{any_offer, any_may, Offers}
use Rattle.smv_cells.specs.declared.cells.Cell.{Cell}
use Rattle.smv_cells.specs.Seen.{View, IsSeen, outcomes}
use Rattle.smv_cells.proofs.CellLaws.{cell-reads}
use Rattle.smv_outcome_lists.specs.Reads.{read_any, element_any}
use Rattle.smv_outcomes.specs.Outcomes.{IsMayOf, AreOffersOf, AreListsOf, IsSumOf}
use Rattle.smv_outcomes.proofs.ExpressionLaws.{all-filled}

one : (b : Bool) → (b || false) ≡ b
one true = refl
one false = refl

-- lists that are equal
pub never : {X : Type 0} (x : X) (xs : List X) → [] ≡ x ∷ xs → ⊥
never x xs e = (cc)

pub heads : {X : Type 0} (x y : X) (xs ys : List X) → x ∷ xs ≡ y ∷ ys → x ≡ y
heads x y xs ys e = (cc)

pub tails : {X : Type 0} (x y : X) (xs ys : List X) → x ∷ xs ≡ y ∷ ys → xs ≡ ys
tails x y xs ys e = (cc)

same-always : {X : Type 0} (b : Bool) (xs : List X) → is_there xs ≡ true → list_any (λ x. b) xs ≡ b
same-always b [] h = absurd (cc)
same-always true (x ∷ xs) h = refl
same-always false (x ∷ []) h = refl
same-always false (x ∷ (y ∷ xs)) h = same-always false (y ∷ xs) refl

module _ {S C : Type 0} (holds : S → C → (ℕ → Bool) → Bool) (s : S) (problem : Problem) (cells : List (Cell C)) (v : View) (h : IsSeen holds s problem cells v) (a : ℕ → Bool) (p : AbsOutcome → Bool) (family : ℕ) (f : Family) where
  -- what a test finds of the element at these places
  abbrev at_places : List Place → Bool
  at_places ps = list_any p (places_at v.world v.kept (v.state a) family f (Some ps))

  where_same : (g k : Place → Bool) (o : AbsOutcome) → ((q : Place) → g q ≡ k q) → where_within (p None) g o ≡ where_within (p None) k o
  where_same g k None e = refl
  where_same g k (Some q) e = e q

  no_types : (ps : List Place) (uss : List (List AbsOutcome)) → found_from v.world (p None) at_places ps [] uss ≡ at_places ps
  no_types ps [] = refl
  no_types ps (us ∷ uss) = no_types ps uss

  no_indexes : (ps : List Place) (over : List Simple) → found_from v.world (p None) at_places ps over [] ≡ at_places ps
  no_indexes ps [] = refl
  no_indexes ps (t ∷ over) = refl

  -- a read by outcomes with conditions is one by the outcomes that are possible
  read-found : (ps : List Place) (over : List Simple) (uss : List (List (Offer C))) (all : List (List AbsOutcome)) → ((q : AbsOutcome → Bool) → map (any_offer v.world.classes holds s a q) uss ≡ map (list_any q) all) →
      read_any v.world holds s a p family (places_in v.world f.value) cells ps over uss ≡ found_from v.world (p None) at_places ps over all
  unfolding read_any
  read-found ps [] uss all e = cell-reads holds s problem cells v h a p family f ps ∙ sym (no_types ps all)
  read-found ps (t ∷ over) [] [] e = cell-reads holds s problem cells v h a p family f ps
  read-found ps (t ∷ over) [] (us ∷ all) e = absurd (never _ _ (e (λ u. true)))
  read-found ps (t ∷ over) (us ∷ uss) [] e = absurd (never _ _ (sym (e (λ u. true))))
  read-found ps (t ∷ over) (us ∷ uss) (xs ∷ all) e =
      let inner : AbsOutcome → Bool = λ u. where_within (p None) (λ q. read_any v.world holds s a p family (places_in v.world f.value) cells (ps ++ q ∷ []) over uss) (place_within (places_in v.world t) u) in
      heads _ _ _ _ (e inner)
      ∙ any-agree inner (λ u. where_within (p None) (λ q. found_from v.world (p None) at_places (ps ++ q ∷ []) over all) (place_within (places_in v.world t) u)) xs (λ u.
      where_same (λ q. read_any v.world holds s a p family (places_in v.world f.value) cells (ps ++ q ∷ []) over uss) (λ q. found_from v.world (p None) at_places (ps ++ q ∷ []) over all) (place_within (places_in v.world t) u) (λ q.
      read-found (ps ++ q ∷ []) over uss all (λ r. tails _ _ _ _ (e r))))

  found-places : (o : Option (List Place)) → list_any p (places_at v.world v.kept (v.state a) family f o) ≡ found (p None) at_places o
  found-places None = one (p None)
  found-places (Some ps) = refl

module _ {S C : Type 0} (holds : S → C → (ℕ → Bool) → Bool) (s : S) (problem : Problem) (cells : List (Cell C)) (v : View) (h : IsSeen holds s problem cells v) (a : ℕ → Bool) (p : AbsOutcome → Bool) (family : ℕ) where
  -- an element of a family, if there is one
  pub element-is : (o : Option Family) (uss : List (List (Offer C))) (all : List (List AbsOutcome)) → list_all is_there all ≡ true → ((q : AbsOutcome → Bool) → map (any_offer v.world.classes holds s a q) uss ≡ map (list_any q) all) →
      element_any v.world holds s a p family cells o uss ≡ list_any p (flat_map (may_read v.world v.kept (v.state a) family o) (one_of_each all))
  unfolding element_any
  element-is None uss all t e = sym (any-flat_map p (may_read v.world v.kept (v.state a) family None) (one_of_each all) ∙ (same-always (p None || false) (one_of_each all) (there-choices all t) ∙ one (p None)))
  element-is (Some f) uss all t e =
      read-found holds s problem cells v h a p family f [] f.over uss all e
      ∙ (sym (found-within v.world (p None) (λ ps. list_any p (places_at v.world v.kept (v.state a) family f (Some ps))) f.over all t)
      ∙ (any-agree (λ us. found (p None) (λ ps. list_any p (places_at v.world v.kept (v.state a) family f (Some ps))) (within_all v.world f.over us)) (λ us. list_any p (may_read v.world v.kept (v.state a) family (Some f) us)) (one_of_each all) (λ us. sym (found-places holds s problem cells v h a p family f (within_all v.world f.over us)))
      ∙ sym (any-flat_map p (may_read v.world v.kept (v.state a) family (Some f)) (one_of_each all))))

pub read_of_it : {S C : Type 0} (holds : S → C → (ℕ → Bool) → Bool) (s t : S) (problem : Problem) (cells : List (Cell C)) (v : View) → IsSeen holds s problem cells v → (whole : FlatExpr) (family at : ℕ) (indexes shown : List FlatExpr) (b : List Spot) (each uss : List (List (Offer C))) (offers : List (Offer C)) (m : May C) →
    whole ≡ Read family indexes at → shown ≡ indexes → uss ≡ each → AreListsOf holds s v b shown [] each →
    ((p : AbsOutcome → Bool) (a : ℕ → Bool) → any_offer v.world.classes holds t a p offers ≡ element_any v.world holds s a p family cells (slice_get problem.families family) uss) → m ≡ Values offers → IsMayOf holds t v whole b m
unfolding IsMayOf AreListsOf Offers any_may outcomes
read_of_it holds s t problem cells v h whole family at indexes shown b each uss offers m is e f are made g a p =
    let bs : List Place = map (place_in v.world.classes) b in
    let all : List (List AbsOutcome) = map (λ x. may v.world v.kept (v.state a) x bs) indexes in
    let lists : (q : AbsOutcome → Bool) → map (any_offer v.world.classes holds s a q) uss ≡ map (list_any q) all = λ q.
    ap (map (any_offer v.world.classes holds s a q)) f
    ∙ (sym (append-nil (map (any_offer v.world.classes holds s a q) each)) ∙ (are a q ∙ (ap (map (λ x. list_any q (may v.world v.kept (v.state a) x bs))) e ∙ sym (tests q (λ x. may v.world v.kept (v.state a) x bs) indexes)))) in
    ap (any_may v.world.classes holds t a p) g
    ∙ (made p a
    ∙ (element-is holds s problem cells v h a p family (slice_get problem.families family) uss all (all-filled holds v h.view a b indexes) lists
    ∙ (ap (λ families. list_any p (flat_map (may_read v.world v.kept (v.state a) family (slice_get families family)) (one_of_each all))) (sym h.world.families)
    ∙ (ap (list_any p) (sym (may-Read v.world v.kept (v.state a) family indexes at bs)) ∙ ap (λ x. list_any p (may v.world v.kept (v.state a) x bs)) (sym is)))))
  where
    tests : {X : Type 0} (q : AbsOutcome → Bool) (g : X → List AbsOutcome) (xs : List X) → map (list_any q) (map g xs) ≡ map (λ x. list_any q (g x)) xs
    tests q g [] = refl
    tests q g (x ∷ xs) = ap (λ l. list_any q (g x) ∷ l) (tests q g xs)

pub sum_of_it : {S C : Type 0} (holds : S → C → (ℕ → Bool) → Bool) (s t : S) (v : View) (whole first e : FlatExpr) (more shown : List FlatSigned) (b : List Spot) (us us' sum : List (Offer C)) (m : May C) → whole ≡ Sum first more → e ≡ first → shown ≡ more → us' ≡ us → AreOffersOf holds s v e b us →
    IsSumOf holds s t v b us' shown [] sum → m ≡ Values sum → IsMayOf holds t v whole b m
unfolding IsMayOf IsSumOf AreOffersOf Offers any_may outcomes
sum_of_it holds s t v whole first e more shown b us us' sum m is same f d here added g a p =
    let bs : List Place = map (place_in v.world.classes) b in
    let each : FlatExpr → List AbsOutcome = λ x. may v.world v.kept (v.state a) x bs in
    ap (any_may v.world.classes holds t a p) g
    ∙ (added a p
    ∙ (ap (any_offer v.world.classes holds s a (sum_test each shown p)) d
    ∙ (here a (sum_test each shown p)
    ∙ (ap (λ x. list_any (sum_test each shown p) (each x)) same
    ∙ (ap (λ l. list_any (sum_test each l p) (each first)) f
    ∙ (sym (any-summed each more (each first) p) ∙ (ap (list_any p) (sym (may-Sum v.world v.kept (v.state a) first more bs)) ∙ ap (λ x. list_any p (may v.world v.kept (v.state a) x bs)) (sym is))))))))
