-- What loops over parts keep.
use Rattle.std.proofs.Common.{◌≡◌, ℕ, List, [], ◌∷◌, ◌++◌, map, Bool, ◌&&◌, refl, sym, ap, ◌∙◌, subst}
use Rattle.std.specs.List.{list_any, flat_map}
use Rattle.std.proofs.lemmas.List.{map-append, append_assoc, map_push}
use Rattle.law_lists.proofs.Anys.{any-agree}
use Rattle.law_lists.proofs.Lists.{append_again}
use Rattle.smv_core.specs.FlatMeaning.{Numbered}
use Rattle.smv_core.specs.Values.{add}
use Rattle.smv_core.specs.declared.flat.FlatExpr.{FlatExpr}
use Rattle.smv_core.specs.declared.flat.FlatMember.{FlatMember, One}
use Rattle.smv_core.specs.declared.flat.FlatSigned.{FlatSigned, out-FlatSigned}
use Rattle.law_obligations.specs.Places.{AbsOutcome, valued, as_place}
use Rattle.law_obligations.specs.Combined.{sum_test}
use Rattle.smv_spots.specs.declared.spots.Spot.{Spot}
use Rattle.smv_spots.specs.Spots.{outcome_in}
use Rattle.smv_conditions.specs.declared.offers.Offer.{Offer}
use Rattle.smv_conditions.specs.declared.chances.Chances.{Chances}
use Rattle.smv_conditions.specs.Keep.{KeepsConditions}
use Rattle.smv_conditions.specs.Chances.{mix_at, AreMade}
use Rattle.smv_conditions.specs.Chain.{AllMade}
use Rattle.smv_conditions.specs.Offers.{any_offer, AreOffersMade}
use Rattle.smv_conditions.proofs.AddLaws.{offers_same}
use Rattle.smv_conditions.proofs.ChainLaws.{mixes_kept}
use Rattle.smv_problem.specs.declared.problem.Problem.{Problem}
use Rattle.smv_cells.specs.declared.cells.Cell.{Cell}
use Rattle.smv_cells.specs.Cells.{AreCellsMade}
use Rattle.smv_cells.specs.Seen.{View, IsSeen, outcomes}
use Rattle.smv_outcome_lists.specs.Lists.{AreListsMade}
use Rattle.smv_outcome_lists.proofs.CombinedLaws.{chances_kept}
use Rattle.smv_outcome_lists.proofs.ListLaws.{made_after}
use Rattle.smv_free_variables.specs.declared.known.Entry.{Entry}
use Rattle.smv_outcomes.specs.Remembered.{AreKnown}
use Rattle.smv_outcomes.specs.Outcomes.{mix_in, member_in, AreOffersOf, IsTruthOf, AreTruthsOf, AreTruthsAlong, AreListsOf, AreMembersOf, AddsMember, IsSumOf}

-- what a loop over parts keeps: conditions that were made, what is known, and that what is gathered is right for each view
pub record Gathering {S C : Type 0} (IsMade : S → C → Type 0) (holds : S → C → (ℕ → Bool) → Bool) (room : S → ℕ) (start s : S) (problem : Problem) (cells : List (Cell C)) (entries : List (Entry (Chances C))) (Made : Type 0) (are : View → Type 0) : Type 0 where
  pub keeps : KeepsConditions IsMade holds room start s
  pub made : Made
  pub cells_made : AreCellsMade (IsMade s) cells
  pub known : AreKnown IsMade holds s problem cells entries
  pub is : (v : View) → IsSeen holds start problem cells v → are v

-- one more of what is gathered, where the others mean the same
one_more : {X Y Z : Type 0} (f g : X → Z) (h : Y → Z) (each longer : List X) (x : X) (y : Y) (all rest more : List Y) → rest ≡ y ∷ more → longer ≡ each ++ x ∷ [] → map g each ≡ map f each → map f each ++ map h rest ≡ map h all → g x ≡ h y →
    map g longer ++ map h more ≡ map h all
one_more f g h each longer x y all rest more e d same before here =
    ap (λ l. map g l ++ map h more) d
    ∙ (ap (λ l. l ++ map h more) (map_push g each x)
    ∙ (append_again (map g each) (map h more) (g x)
    ∙ (ap (λ z. map g each ++ z ∷ map h more) here
    ∙ (ap (λ l. l ++ map h (y ∷ more)) same ∙ (ap (λ l. map f each ++ map h l) (sym e) ∙ before)))))

pub chances_shown : {S C : Type 0} (IsMade : S → C → Type 0) (holds : S → C → (ℕ → Bool) → Bool) (room : S → ℕ) (s t : S) (xs shown : List (Chances C)) → shown ≡ xs → KeepsConditions IsMade holds room s t → AllMade (IsMade s) xs → AllMade (IsMade t) shown
chances_shown IsMade holds room s t xs shown e k m = subst (AllMade (IsMade t)) (sym e) (chances_kept IsMade holds room s t xs k m)

chances_after : {C : Type 0} (IsMade : C → Type 0) (xs : List (Chances C)) (x : Chances C) → AllMade IsMade xs → AreMade IsMade x → AllMade IsMade (xs ++ x ∷ [])
chances_after IsMade [] x m n = (n, tt)
chances_after IsMade (y ∷ xs) x m n = (m.0, chances_after IsMade xs x m.1 n)

pub chances_pushed : {C : Type 0} (IsMade : C → Type 0) (old new : List (Chances C)) (x : Chances C) → new ≡ old ++ x ∷ [] → AllMade IsMade old → AreMade IsMade x → AllMade IsMade new
chances_pushed IsMade old new x e m n = subst (AllMade IsMade) (sym e) (chances_after IsMade old x m n)

pub lists_pushed : {C : Type 0} (IsMade : C → Type 0) (old new : List (List (Offer C))) (us : List (Offer C)) → new ≡ old ++ us ∷ [] → AreListsMade IsMade old → AreOffersMade IsMade us → AreListsMade IsMade new
lists_pushed IsMade old new us e m n = subst (AreListsMade IsMade) (sym e) (made_after IsMade old us m n)

module _ {S C : Type 0} (holds : S → C → (ℕ → Bool) → Bool) (s : S) (v : View) where
  pub truths_begin : (b : List Spot) (all rest : List FlatExpr) (each : List (Chances C)) → rest ≡ all → each ≡ [] → AreTruthsOf holds s v b all rest each
  unfolding AreTruthsOf
  truths_begin b all rest each e d a = ap (λ l. map (mix_at holds s a) l ++ map (mix_in v a b) rest) d ∙ ap (map (mix_in v a b)) e

  pub along_begins : (body : FlatExpr) (all rest : List (List Spot)) (each : List (Chances C)) → rest ≡ all → each ≡ [] → AreTruthsAlong holds s v body all rest each
  unfolding AreTruthsAlong
  along_begins body all rest each e d a = ap (λ l. map (mix_at holds s a) l ++ map (λ b. mix_in v a b body) rest) d ∙ ap (map (λ b. mix_in v a b body)) e

  pub lists_begin : (b : List Spot) (all rest : List FlatExpr) (each : List (List (Offer C))) → rest ≡ all → each ≡ [] → AreListsOf holds s v b all rest each
  unfolding AreListsOf
  lists_begin b all rest each e d a p = ap (λ l. map (any_offer v.world.classes holds s a p) l ++ map (λ x. list_any p (outcomes v a x b)) rest) d ∙ ap (map (λ x. list_any p (outcomes v a x b))) e

  pub members_begin : (b : List Spot) (all rest : List FlatMember) (each : List (List (Offer C))) → rest ≡ all → each ≡ [] → AreMembersOf holds s v b all rest each
  unfolding AreMembersOf
  members_begin b all rest each e d a p = ap (λ l. map (any_offer v.world.classes holds s a p) l ++ map (list_any p) (flat_map (member_in v a b) rest)) d ∙ ap (λ l. map (list_any p) (flat_map (member_in v a b) l)) e

  pub sum_begins : (b : List Spot) (first sum : List (Offer C)) (all rest : List FlatSigned) → rest ≡ all → sum ≡ first → IsSumOf holds s s v b first all rest sum
  unfolding IsSumOf
  sum_begins b first sum all rest e d a p = ap (λ l. any_offer v.world.classes holds s a (sum_test (λ x. outcomes v a x b) l p) sum) e ∙ ap (any_offer v.world.classes holds s a (sum_test (λ x. outcomes v a x b) all p)) d

module _ {S C : Type 0} (IsMade : S → C → Type 0) (holds : S → C → (ℕ → Bool) → Bool) (room : S → ℕ) (s t : S) (v : View) (k : KeepsConditions IsMade holds room s t) where
  pub truths_go : (b : List Spot) (part : FlatExpr) (all rest more : List FlatExpr) (each longer : List (Chances C)) (x : Chances C) → rest ≡ part ∷ more → longer ≡ each ++ x ∷ [] → AllMade (IsMade s) each → AreTruthsOf holds s v b all rest each → IsTruthOf holds t v part b x →
      AreTruthsOf holds t v b all more longer
  unfolding AreTruthsOf IsTruthOf
  truths_go b part all rest more each longer x e d m before here a = one_more (mix_at holds s a) (mix_at holds t a) (mix_in v a b) each longer x part all rest more e d (mixes_kept IsMade holds room a s t each k m) (before a) (here a)

  pub along_goes : (body : FlatExpr) (inner shown : List Spot) (all rest more : List (List Spot)) (each longer : List (Chances C)) (x : Chances C) → rest ≡ inner ∷ more → longer ≡ each ++ x ∷ [] → shown ≡ inner →
      AllMade (IsMade s) each → AreTruthsAlong holds s v body all rest each → IsTruthOf holds t v body shown x → AreTruthsAlong holds t v body all more longer
  unfolding AreTruthsAlong IsTruthOf
  along_goes body inner shown all rest more each longer x e d g m before here a =
      one_more (mix_at holds s a) (mix_at holds t a) (λ b. mix_in v a b body) each longer x inner all rest more e d (mixes_kept IsMade holds room a s t each k m) (before a) (here a ∙ ap (λ b. mix_in v a b body) g)

  lists_same : (a : ℕ → Bool) (p : AbsOutcome → Bool) (uss : List (List (Offer C))) → AreListsMade (IsMade s) uss → map (any_offer v.world.classes holds t a p) uss ≡ map (any_offer v.world.classes holds s a p) uss
  lists_same a p [] m = refl
  lists_same a p (us ∷ uss) m = ap (λ x. x ∷ map (any_offer v.world.classes holds t a p) uss) (offers_same v.world.classes IsMade holds room a p s t us k m.0) ∙ ap (λ xs. any_offer v.world.classes holds s a p us ∷ xs) (lists_same a p uss m.1)

  pub lists_go : (b : List Spot) (part : FlatExpr) (all rest more : List FlatExpr) (each longer : List (List (Offer C))) (us shown : List (Offer C)) → rest ≡ part ∷ more → longer ≡ each ++ shown ∷ [] → shown ≡ us → AreListsMade (IsMade s) each → AreListsOf holds s v b all rest each → AreOffersOf holds t v part b us →
      AreListsOf holds t v b all more longer
  unfolding AreListsOf AreOffersOf
  lists_go b part all rest more each longer us shown e d f m before here a p =
      one_more (any_offer v.world.classes holds s a p) (any_offer v.world.classes holds t a p) (λ x. list_any p (outcomes v a x b)) each longer shown part all rest more e d (lists_same a p each m) (before a p) (ap (any_offer v.world.classes holds t a p) f ∙ here a p)

  pub members_go : (b : List Spot) (member : FlatMember) (all rest more : List FlatMember) (each longer : List (List (Offer C))) → rest ≡ member ∷ more → AreListsMade (IsMade s) each → AreMembersOf holds s v b all rest each → AddsMember holds t v b member each longer → AreMembersOf holds t v b all more longer
  unfolding AreMembersOf AddsMember
  members_go b member all rest more each longer e m before here a p =
      let others : List (List AbsOutcome) = flat_map (member_in v a b) more in
      ap (λ l. l ++ map (list_any p) others) (here a p)
      ∙ (ap (λ l. (l ++ map (list_any p) (member_in v a b member)) ++ map (list_any p) others) (lists_same a p each m)
      ∙ (append_assoc (map (any_offer v.world.classes holds s a p) each) (map (list_any p) (member_in v a b member)) (map (list_any p) others)
      ∙ (ap (λ l. map (any_offer v.world.classes holds s a p) each ++ l) (sym (map-append (list_any p) (member_in v a b member) others))
      ∙ (ap (λ l. map (any_offer v.world.classes holds s a p) each ++ map (list_any p) (flat_map (member_in v a b) l)) (sym e) ∙ before a p))))

pub member_pushed : {S C : Type 0} (holds : S → C → (ℕ → Bool) → Bool) (t : S) (v : View) (b : List Spot) (m : FlatMember) (e shown : FlatExpr) (old new : List (List (Offer C))) (us pushed : List (Offer C)) → m ≡ One e → shown ≡ e → new ≡ old ++ pushed ∷ [] → pushed ≡ us → AreOffersOf holds t v shown b us → AddsMember holds t v b m old new
unfolding AddsMember AreOffersOf member_in outcomes
member_pushed holds t v b m e shown old new us pushed is d f g here a p =
    ap (map (any_offer v.world.classes holds t a p)) f
    ∙ (map_push (any_offer v.world.classes holds t a p) old pushed
    ∙ (ap (λ x. map (any_offer v.world.classes holds t a p) old ++ x ∷ []) (ap (any_offer v.world.classes holds t a p) g ∙ (here a p ∙ ap (λ x. list_any p (outcomes v a x b)) d))
    ∙ ap (λ x. map (any_offer v.world.classes holds t a p) old ++ map (list_any p) (member_in v a b x)) (sym is)))

module _ {S C : Type 0} (IsMade : S → C → Type 0) (holds : S → C → (ℕ → Bool) → Bool) (room : S → ℕ) (start s mid t : S) (v : View) (k : KeepsConditions IsMade holds room s mid) where
  any_same : (a : ℕ → Bool) (f g : AbsOutcome → Bool) (us : List (Offer C)) → AreOffersMade (IsMade s) us → ((u : AbsOutcome) → f u ≡ g u) → any_offer v.world.classes holds mid a f us ≡ any_offer v.world.classes holds s a g us
  unfolding any_offer
  any_same a f g us m e = offers_same v.world.classes IsMade holds room a f s mid us k m ∙ any-agree (λ (o : Offer C). holds s o.when a && f (outcome_in v.world.classes o.outcome)) (λ (o : Offer C). holds s o.when a && g (outcome_in v.world.classes o.outcome)) us (λ o. ap (λ b. holds s o.when a && b) (e (outcome_in v.world.classes o.outcome)))

  pub sum_goes : (b : List Spot) (first sum sum' vs vs' next : List (Offer C)) (x : FlatSigned) (minus : Bool) (e : FlatExpr) (all rest more : List FlatSigned) → rest ≡ x ∷ more → minus ≡ (out-FlatSigned x).minus → e ≡ (out-FlatSigned x).of → sum' ≡ sum → vs' ≡ vs →
      AreOffersMade (IsMade s) sum → IsSumOf holds start s v b first all rest sum → AreOffersOf holds mid v e b vs →
      ((n : Numbered) (p : AbsOutcome → Bool) (a : ℕ → Bool) → any_offer n holds t a p next ≡ any_offer n holds mid a (λ u. any_offer n holds mid a (λ w. p (as_place (add minus (valued u) (valued w)))) vs') sum') → IsSumOf holds start t v b first all more next
  unfolding IsSumOf AreOffersOf
  sum_goes b first sum sum' vs vs' next x minus e all rest more r q d f g m before here added a p =
      let n : Numbered = v.world.classes in
      let each : FlatExpr → List AbsOutcome = λ y. outcomes v a y b in
      added n (sum_test each more p) a
      ∙ (ap (any_offer n holds mid a (λ u. any_offer n holds mid a (λ w. sum_test each more p (as_place (add minus (valued u) (valued w)))) vs')) f
      ∙ (any_same a (λ u. any_offer n holds mid a (λ w. sum_test each more p (as_place (add minus (valued u) (valued w)))) vs') (sum_test each (x ∷ more) p) sum m (λ u.
      ap (any_offer n holds mid a (λ w. sum_test each more p (as_place (add minus (valued u) (valued w))))) g
      ∙ (here a (λ w. sum_test each more p (as_place (add minus (valued u) (valued w))))
      ∙ (ap (λ y. list_any (λ w. sum_test each more p (as_place (add minus (valued u) (valued w)))) (each y)) d
      ∙ ap (λ y. list_any (λ w. sum_test each more p (as_place (add y (valued u) (valued w)))) (each (out-FlatSigned x).of)) q)))
      ∙ (ap (λ l. any_offer n holds s a (sum_test each l p) sum) (sym r) ∙ before a p)))
