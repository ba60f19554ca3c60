-- Reads, index by index.
use Rattle.std.proofs.Common.{◌≡◌, ℕ, ◌+◌, List, [], ◌∷◌, ◌++◌, map, length, Option, Some, None, Bool, true, false, ◌&&◌, ◌||◌, if◌then◌else◌, refl, sym, ap, ◌∙◌, arith, subst}
use Rattle.std.proofs.lemmas.List.{map-append}
use Rattle.law_lists.proofs.Anys.{any-agree}
use Rattle.smv_core.specs.FlatMeaning.{Numbered}
use Rattle.smv_core.specs.declared.flat.Simple.{Simple}
use Rattle.law_obligations.specs.Places.{Place, World, AbsOutcome, places_in}
use Rattle.law_obligations.specs.May.{place_within}
use Rattle.law_obligations.specs.ReadOutcomes.{where_within}
use Rattle.smv_spots.specs.declared.spots.Spot.{Spot}
use Rattle.smv_spots.specs.Spots.{place_in, outcome_in}
use Rattle.smv_conditions.specs.declared.offers.Offer.{Offer}
use Rattle.smv_conditions.specs.Keep.{KeepsConditions}
use Rattle.smv_conditions.specs.Offers.{any_offer, AreOffersMade}
use Rattle.smv_conditions.specs.Adds.{Adds}
use Rattle.smv_conditions.proofs.AddLaws.{offers_same}
use Rattle.smv_cells.specs.declared.cells.Cell.{Cell}
use Rattle.smv_cells.specs.Cells.{is_cell_of, AreCellsMade, cell_any}
use Rattle.smv_outcome_lists.specs.Lists.{AreListsMade}
use Rattle.smv_outcome_lists.specs.Reads.{read_any, read_along, read_inside}
use Rattle.smv_outcome_lists.proofs.PairLaws.{rest_made}

-- how much is left to do
abbrev pub weight : {X : Type 0} → List (List X) → ℕ
weight [] = 0
weight (us ∷ uss) = length us + 4 + weight uss

module _ {S C : Type 0} (n : Numbered) (IsMade : S → C → Type 0) (holds : S → C → (ℕ → Bool) → Bool) (room : S → ℕ) (a : ℕ → Bool) (p : AbsOutcome → Bool) where
  pub cell_same : (s t : S) (family : ℕ) (ps : List Place) (every : List Place) (cells : List (Cell C)) → KeepsConditions IsMade holds room s t → AreCellsMade (IsMade s) cells → cell_any n holds t a p family ps every cells ≡ cell_any n holds s a p family ps every cells
  unfolding cell_any
  cell_same s t family ps every [] k m = refl
  cell_same s t family ps every (c ∷ cs) k m =
      ap (λ b. if is_cell_of n family ps c then b else cell_any n holds t a p family ps every cs) (offers_same n IsMade holds room a p s t c.values k m.0)
      ∙ ap (λ b. if is_cell_of n family ps c then any_offer n holds s a p c.values else b) (cell_same s t family ps every cs k m.1)

pub adds_same : {S C : Type 0} (n : Numbered) (holds : S → C → (ℕ → Bool) → Bool) (s t : S) (a : ℕ → Bool) (p : AbsOutcome → Bool) (old new : List (Offer C)) (when x y : Bool) → x ≡ y → Adds n holds s t a p old new when x → Adds n holds s t a p old new when y
adds_same n holds s t a p old new when x y e h = subst (Adds n holds s t a p old new when) e h

module _ {S C : Type 0} (w : World) (holds : S → C → (ℕ → Bool) → Bool) (a : ℕ → Bool) (p : AbsOutcome → Bool) (family : ℕ) (every : List Place) (cells : List (Cell C)) where
  nothing_more : (c b : Bool) → b ≡ (b || (c && false))
  nothing_more true true = refl
  nothing_more true false = refl
  nothing_more false true = refl
  nothing_more false false = refl

  pub none_along : (s : S) (out : List (Offer C)) (when : C) (ps : List Place) (ty : Simple) (us : List (Offer C)) (over : List Simple) (uss : List (List (Offer C))) → length us ≡ 0 → Adds w.classes holds s s a p out out (holds s when a) (read_along w holds s a p family every cells ps ty us over uss)
  unfolding Adds read_along any_offer
  none_along s out when ps ty [] over uss e = nothing_more (holds s when a) (any_offer w.classes holds s a p out)
  none_along s out when ps ty (u ∷ us) over uss e = absurd (omega arith)

  -- no type is left, or no index
  pub read_ends : (s : S) (ps : List Place) (over : List Simple) (uss : List (List (Offer C))) → length over ≡ 0 → cell_any w.classes holds s a p family ps every cells ≡ read_any w holds s a p family every cells ps over uss
  unfolding read_any
  read_ends s ps [] uss e = refl
  read_ends s ps (ty ∷ over) uss e = absurd (omega arith)

  pub read_stops : (s : S) (ps : List Place) (over : List Simple) (uss : List (List (Offer C))) → length uss ≡ 0 → cell_any w.classes holds s a p family ps every cells ≡ read_any w holds s a p family every cells ps over uss
  unfolding read_any
  read_stops s ps [] uss e = refl
  read_stops s ps (ty ∷ over) [] e = refl
  read_stops s ps (ty ∷ over) (us ∷ uss) e = absurd (omega arith)

  pub read_goes : (s : S) (ps : List Place) (ty : Simple) (others : List Simple) (us shown : List (Offer C)) (rest uss : List (List (Offer C))) → uss ≡ us ∷ rest → shown ≡ us → read_along w holds s a p family every cells ps ty shown others rest ≡ read_any w holds s a p family every cells ps (ty ∷ others) uss
  unfolding read_any read_along read_inside
  read_goes s ps ty others us shown rest uss f g = ap (λ l. read_along w holds s a p family every cells ps ty l others rest) g ∙ ap (λ l. read_any w holds s a p family every cells ps (ty ∷ others) l) (sym f)

  pub read_whole : (s : S) (ps : List Place) (ty : Simple) (others over : List Simple) (uss : List (List (Offer C))) → over ≡ ty ∷ others → read_any w holds s a p family every cells ps (ty ∷ others) uss ≡ read_any w holds s a p family every cells ps over uss
  read_whole s ps ty others over uss e = ap (λ l. read_any w holds s a p family every cells ps l uss) (sym e)

  pub outside_added : (s t : S) (old new : List (Offer C)) (when : Bool) (always : C) (ps : List Place) (at : Option Spot) (over : List Simple) (uss : List (List (Offer C))) → at ≡ None → holds s always a ≡ true →
      Adds w.classes holds s t a p old new when (holds s always a && p (outcome_in w.classes None)) → Adds w.classes holds s t a p old new when (read_inside w holds s a p family every cells ps (outcome_in w.classes at) over uss)
  unfolding read_inside
  outside_added s t old new when always ps at over uss e h add = adds_same w.classes holds s t a p old new when (holds s always a && p None) (where_within (p None) (λ q. read_any w holds s a p family every cells (ps ++ q ∷ []) over uss) (outcome_in w.classes at)) (ap (λ b. b && p None) h ∙ ap (λ o. where_within (p None) (λ q. read_any w holds s a p family every cells (ps ++ q ∷ []) over uss) (outcome_in w.classes o)) (sym e)) add

  pub inside_added : (s t : S) (old new : List (Offer C)) (when : Bool) (places longer shown : List Spot) (q : Spot) (at : Option Spot) (over : List Simple) (uss : List (List (Offer C))) → at ≡ Some q → longer ≡ places ++ q ∷ [] → shown ≡ longer →
      Adds w.classes holds s t a p old new when (read_any w holds s a p family every cells (map (place_in w.classes) shown) over uss) → Adds w.classes holds s t a p old new when (read_inside w holds s a p family every cells (map (place_in w.classes) places) (outcome_in w.classes at) over uss)
  unfolding read_inside
  inside_added s t old new when places longer shown q at over uss e f g add =
      adds_same w.classes holds s t a p old new when (read_any w holds s a p family every cells (map (place_in w.classes) shown) over uss) (where_within (p None) (λ q. read_any w holds s a p family every cells (map (place_in w.classes) places ++ q ∷ []) over uss) (outcome_in w.classes at))
      (ap (λ l. read_any w holds s a p family every cells (map (place_in w.classes) l) over uss) (g ∙ f) ∙ (ap (λ l. read_any w holds s a p family every cells l over uss) (map-append (place_in w.classes) places (q ∷ [])) ∙ ap (λ o. where_within (p None) (λ r. read_any w holds s a p family every cells (map (place_in w.classes) places ++ r ∷ []) over uss) (outcome_in w.classes o)) (sym e))) add

module _ {S C : Type 0} (w : World) (IsMade : S → C → Type 0) (holds : S → C → (ℕ → Bool) → Bool) (room : S → ℕ) (a : ℕ → Bool) (p : AbsOutcome → Bool) (family : ℕ) (every : List Place) (cells : List (Cell C)) where
  where_same : (f g : Place → Bool) (o : AbsOutcome) → ((q : Place) → f q ≡ g q) → where_within (p None) f o ≡ where_within (p None) g o
  where_same f g None e = refl
  where_same f g (Some q) e = e q

  any_same : (s t : S) (f g : AbsOutcome → Bool) (us : List (Offer C)) → KeepsConditions IsMade holds room s t → AreOffersMade (IsMade s) us → ((u : AbsOutcome) → f u ≡ g u) → any_offer w.classes holds t a f us ≡ any_offer w.classes holds s a g us
  unfolding any_offer
  any_same s t f g us k m e = offers_same w.classes IsMade holds room a f s t us k m ∙ any-agree (λ (o : Offer C). holds s o.when a && f (outcome_in w.classes o.outcome)) (λ (o : Offer C). holds s o.when a && g (outcome_in w.classes o.outcome)) us (λ o. ap (λ b. holds s o.when a && b) (e (outcome_in w.classes o.outcome)))

  pub read_same : (s t : S) (ps : List Place) (over : List Simple) (uss : List (List (Offer C))) → KeepsConditions IsMade holds room s t → AreCellsMade (IsMade s) cells → AreListsMade (IsMade s) uss → read_any w holds t a p family every cells ps over uss ≡ read_any w holds s a p family every cells ps over uss
  unfolding read_any
  read_same s t ps [] uss k mc m = cell_same w.classes IsMade holds room a p s t family ps every cells k mc
  read_same s t ps (ty ∷ over) [] k mc m = cell_same w.classes IsMade holds room a p s t family ps every cells k mc
  read_same s t ps (ty ∷ over) (us ∷ uss) k mc m =
      any_same s t (λ u. where_within (p None) (λ q. read_any w holds t a p family every cells (ps ++ q ∷ []) over uss) (place_within (places_in w ty) u)) (λ u. where_within (p None) (λ q. read_any w holds s a p family every cells (ps ++ q ∷ []) over uss) (place_within (places_in w ty) u)) us k m.0 (λ u.
      where_same (λ q. read_any w holds t a p family every cells (ps ++ q ∷ []) over uss) (λ q. read_any w holds s a p family every cells (ps ++ q ∷ []) over uss) (place_within (places_in w ty) u) (λ q. read_same s t (ps ++ q ∷ []) over uss k mc m.1))

  inside_same : (s t : S) (ps : List Place) (at : AbsOutcome) (over : List Simple) (uss : List (List (Offer C))) → KeepsConditions IsMade holds room s t → AreCellsMade (IsMade s) cells → AreListsMade (IsMade s) uss → read_inside w holds t a p family every cells ps at over uss ≡ read_inside w holds s a p family every cells ps at over uss
  unfolding read_inside
  inside_same s t ps at over uss k mc m = where_same (λ q. read_any w holds t a p family every cells (ps ++ q ∷ []) over uss) (λ q. read_any w holds s a p family every cells (ps ++ q ∷ []) over uss) at (λ q. read_same s t (ps ++ q ∷ []) over uss k mc m)

  along_same : (s t : S) (ps : List Place) (ty : Simple) (us : List (Offer C)) (over : List Simple) (uss : List (List (Offer C))) → KeepsConditions IsMade holds room s t → AreCellsMade (IsMade s) cells → AreOffersMade (IsMade s) us → AreListsMade (IsMade s) uss → read_along w holds t a p family every cells ps ty us over uss ≡ read_along w holds s a p family every cells ps ty us over uss
  unfolding read_along
  along_same s t ps ty us over uss k mc mu m = any_same s t (λ u. read_inside w holds t a p family every cells ps (place_within (places_in w ty) u) over uss) (λ u. read_inside w holds s a p family every cells ps (place_within (places_in w ty) u) over uss) us k mu (λ u. inside_same s t ps (place_within (places_in w ty) u) over uss k mc m)

  both_added : (b c u i r : Bool) → ((b || ((c && u) && i)) || (c && r)) ≡ (b || (c && ((u && i) || r)))
  both_added true c u i r = refl
  both_added false true u i r = refl
  both_added false false u i r = refl

  one_along : (s : S) (ps : List Place) (ty : Simple) (u : Offer C) (more : List (Offer C)) (over : List Simple) (uss : List (List (Offer C))) →
      ((holds s u.when a && read_inside w holds s a p family every cells ps (place_within (places_in w ty) (outcome_in w.classes u.outcome)) over uss) || read_along w holds s a p family every cells ps ty more over uss) ≡ read_along w holds s a p family every cells ps ty (u ∷ more) over uss
  unfolding read_along any_offer
  one_along s ps ty u more over uss = refl

  pub more_along : (s s1 s2 t : S) (out longer longest : List (Offer C)) (when here : C) (ps : List Place) (ty : Simple) (u : Offer C) (more us : List (Offer C)) (over : List Simple) (uss : List (List (Offer C))) (at : Option Spot) →
      us ≡ u ∷ more → KeepsConditions IsMade holds room s s1 → KeepsConditions IsMade holds room s1 s2 → IsMade s when → AreOffersMade (IsMade s) out → AreCellsMade (IsMade s) cells → AreOffersMade (IsMade s) us → AreListsMade (IsMade s) uss →
      holds s1 here a ≡ (holds s when a && holds s u.when a) → outcome_in w.classes at ≡ place_within (places_in w ty) (outcome_in w.classes u.outcome) →
      Adds w.classes holds s1 s2 a p out longer (holds s1 here a) (read_inside w holds s1 a p family every cells ps (outcome_in w.classes at) over uss) →
      Adds w.classes holds s2 t a p longer longest (holds s2 when a) (read_along w holds s2 a p family every cells ps ty more over uss) →
      Adds w.classes holds s t a p out longest (holds s when a) (read_along w holds s a p family every cells ps ty us over uss)
  unfolding Adds
  more_along s s1 s2 t out longer longest when here ps ty u more us over uss at e k l mw mo mc mu mm both is one rest =
      let n : Numbered = w.classes in
      let kl : KeepsConditions IsMade holds room s s2 = record { made = λ c m. l.made c (k.made c m); same = λ c m b. l.same c (k.made c m) b ∙ k.same c m b; stays = l.stays ∙ k.stays } in
      let b : Bool = any_offer n holds s a p out in
      let i : Bool = read_inside w holds s a p family every cells ps (place_within (places_in w ty) (outcome_in n u.outcome)) over uss in
      let r : Bool = read_along w holds s a p family every cells ps ty more over uss in
      rest
      ∙ (ap (λ x. x || (holds s2 when a && read_along w holds s2 a p family every cells ps ty more over uss)) one
      ∙ (ap (λ x. (x || (holds s1 here a && read_inside w holds s1 a p family every cells ps (outcome_in n at) over uss)) || (holds s2 when a && read_along w holds s2 a p family every cells ps ty more over uss)) (offers_same n IsMade holds room a p s s1 out k mo)
      ∙ (ap (λ x. (b || (x && read_inside w holds s1 a p family every cells ps (outcome_in n at) over uss)) || (holds s2 when a && read_along w holds s2 a p family every cells ps ty more over uss)) both
      ∙ (ap (λ x. (b || ((holds s when a && holds s u.when a) && x)) || (holds s2 when a && read_along w holds s2 a p family every cells ps ty more over uss)) (inside_same s s1 ps (outcome_in n at) over uss k mc mm ∙ ap (λ o. read_inside w holds s a p family every cells ps o over uss) is)
      ∙ (ap (λ x. (b || ((holds s when a && holds s u.when a) && i)) || (x && read_along w holds s2 a p family every cells ps ty more over uss)) (kl.same when mw a)
      ∙ (ap (λ x. (b || ((holds s when a && holds s u.when a) && i)) || (holds s when a && x)) (along_same s s2 ps ty more over uss kl mc (rest_made (IsMade s) u more us e mu) mm)
      ∙ (both_added b (holds s when a) (holds s u.when a) i r
      ∙ ap (λ x. b || (holds s when a && x)) (one_along s ps ty u more over uss ∙ ap (λ l. read_along w holds s a p family every cells ps ty l over uss) (sym e)))))))))

-- an element's read, by what its parts are
pub element_read : {S C : Type 0} (w : World) (holds : S → C → (ℕ → Bool) → Bool) (s : S) (a : ℕ → Bool) (p : AbsOutcome → Bool) (family : ℕ) (cells : List (Cell C)) (uss : List (List (Offer C))) (value : Simple) (every shown none noted : List Spot) (over listed : List Simple) (b : Bool) →
    b ≡ read_any w holds s a p family (map (place_in w.classes) shown) cells (map (place_in w.classes) noted) listed uss → shown ≡ every → map (place_in w.classes) every ≡ places_in w value → noted ≡ none → none ≡ [] → listed ≡ over →
    b ≡ read_any w holds s a p family (places_in w value) cells [] over uss
element_read w holds s a p family cells uss value every shown none noted over listed b made e f g h i =
    made
    ∙ (ap (λ l. read_any w holds s a p family l cells (map (place_in w.classes) noted) listed uss) (ap (map (place_in w.classes)) e ∙ f)
    ∙ (ap (λ l. read_any w holds s a p family (places_in w value) cells (map (place_in w.classes) l) listed uss) (g ∙ h) ∙ ap (λ l. read_any w holds s a p family (places_in w value) cells [] l uss) i))

-- Undefined alone
pub one_undefined : {S C : Type 0} (n : Numbered) (holds : S → C → (ℕ → Bool) → Bool) (s : S) (a : ℕ → Bool) (p : AbsOutcome → Bool) (out new : List (Offer C)) (when : C) → out ≡ [] → new ≡ out ++ record { outcome = None; when = when } ∷ [] → holds s when a ≡ true → any_offer n holds s a p new ≡ p None
unfolding any_offer
one_undefined n holds s a p out new when e f h = ap (any_offer n holds s a p) (f ∙ ap (λ l. l ++ record { outcome = None; when = when } ∷ []) e) ∙ (ap (λ b. (b && p None) || false) h ∙ last (p None))
  where
    last : (b : Bool) → (b || false) ≡ b
    last true = refl
    last false = refl
