-- Reads of cells.
use Rattle.std.proofs.Common.{◌≡◌, ℕ, List, [], ◌∷◌, map, length, Some, Bool, true, false, ◌&&◌, ◌||◌, if◌then◌else◌, nat_eq, refl, sym, ap, ◌∙◌, arith, subst}
use Rattle.std.specs.List.{list_any}
use Rattle.law_lists.proofs.Anys.{any-map}
use Rattle.law_lists.proofs.Numbers.{nat_eq-is}
use Rattle.law_lists.proofs.Booleans.{left_of, right_of}
use Rattle.smv_core.specs.FlatMeaning.{Numbered}
use Rattle.smv_core.specs.declared.flat.Family.{Family}
use Rattle.law_obligations.specs.Sets.{Has, first, later}
use Rattle.law_obligations.specs.Places.{Place, AbsOutcome, places_in}
use Rattle.law_obligations.specs.May.{places_at}
use Rattle.law_obligations.specs.Cones.{same_places}
use Rattle.law_obligations.proofs.ConeFacts.{same_places-is}
use Rattle.smv_spots.specs.declared.spots.Spot.{Spot}
use Rattle.smv_spots.specs.Spots.{place_in}
use Rattle.smv_problem.specs.declared.problem.Problem.{Problem}
use Rattle.smv_conditions.specs.declared.offers.Offer.{Offer}
use Rattle.smv_conditions.specs.Offers.{any_offer, AreOffersMade}
use Rattle.smv_conditions.specs.Adds.{Adds}
use Rattle.smv_cells.specs.declared.cells.Cell.{Cell}
use Rattle.smv_cells.specs.Cells.{is_cell_of, AreCellsMade, cell_any}
use Rattle.smv_cells.specs.Seen.{View, IsSeen}

module _ {S C : Type 0} (n : Numbered) (holds : S → C → (ℕ → Bool) → Bool) (a : ℕ → Bool) (p : AbsOutcome → Bool) where
  nothing_more : (w b : Bool) → b ≡ (b || (w && false))
  nothing_more true true = refl
  nothing_more true false = refl
  nothing_more false true = refl
  nothing_more false false = refl

  pub no_place : (s : S) (out : List (Offer C)) (when : C) (spots : List Spot) → length spots ≡ 0 → Adds n holds s s a p out out (holds s when a) (list_any (λ q. p (Some (place_in n q))) spots)
  unfolding Adds
  no_place s out when [] e = nothing_more (holds s when a) (any_offer n holds s a p out)
  no_place s out when (q ∷ qs) e = absurd (omega arith)

  both_added : (b w k r : Bool) → ((b || (w && (true && k))) || (w && r)) ≡ (b || (w && (k || r)))
  both_added true w k r = refl
  both_added false true k r = refl
  both_added false false k r = refl

  pub one_place : (s mid t : S) (out longer longest : List (Offer C)) (when always : C) (q : Spot) (qs spots : List Spot) → spots ≡ q ∷ qs → holds mid when a ≡ holds s when a → holds s always a ≡ true →
      Adds n holds s mid a p out longer (holds s when a) (holds s always a && p (Some (place_in n q))) → Adds n holds mid t a p longer longest (holds mid when a) (list_any (λ q. p (Some (place_in n q))) qs) →
      Adds n holds s t a p out longest (holds s when a) (list_any (λ q. p (Some (place_in n q))) spots)
  unfolding Adds
  one_place s mid t out longer longest when always q qs spots e k y one rest =
      rest
      ∙ (ap (λ b. b || (holds mid when a && list_any (λ q. p (Some (place_in n q))) qs)) one
      ∙ (ap (λ b. (any_offer n holds s a p out || (holds s when a && (holds s always a && p (Some (place_in n q))))) || (b && list_any (λ q. p (Some (place_in n q))) qs)) k
      ∙ (ap (λ b. (any_offer n holds s a p out || (holds s when a && (b && p (Some (place_in n q))))) || (holds s when a && list_any (λ q. p (Some (place_in n q))) qs)) y
      ∙ (both_added (any_offer n holds s a p out) (holds s when a) (p (Some (place_in n q))) (list_any (λ q. p (Some (place_in n q))) qs)
      ∙ ap (λ l. any_offer n holds s a p out || (holds s when a && list_any (λ q. p (Some (place_in n q))) l)) (sym e)))))

  no_cell_any : (s : S) (family : ℕ) (ps : List Place) (every : List Spot) (cells : List (Cell C)) → length cells ≡ 0 → list_any (λ q. p (Some (place_in n q))) every ≡ cell_any n holds s a p family ps (map (place_in n) every) cells
  unfolding cell_any
  no_cell_any s family ps every [] e = sym (any-map (λ q. p (Some q)) (place_in n) every)
  no_cell_any s family ps every (c ∷ cs) e = absurd (omega arith)

  pub no_cell : (s t : S) (out longer : List (Offer C)) (when : C) (family : ℕ) (ps : List Place) (every : List Spot) (cells : List (Cell C)) → length cells ≡ 0 →
      Adds n holds s t a p out longer (holds s when a) (list_any (λ q. p (Some (place_in n q))) every) → Adds n holds s t a p out longer (holds s when a) (cell_any n holds s a p family ps (map (place_in n) every) cells)
  no_cell s t out longer when family ps every cells e h = subst (Adds n holds s t a p out longer (holds s when a)) (no_cell_any s family ps every cells e) h

  this_cell_any : (s : S) (family : ℕ) (ps : List Place) (every : List Place) (c : Cell C) (cs : List (Cell C)) → is_cell_of n family ps c ≡ true → any_offer n holds s a p c.values ≡ cell_any n holds s a p family ps every (c ∷ cs)
  unfolding cell_any
  this_cell_any s family ps every c cs e = ap (λ b. if b then any_offer n holds s a p c.values else cell_any n holds s a p family ps every cs) (sym e)

  other_cell_any : (s : S) (family : ℕ) (ps : List Place) (every : List Place) (c : Cell C) (cs : List (Cell C)) → is_cell_of n family ps c ≡ false → cell_any n holds s a p family ps every cs ≡ cell_any n holds s a p family ps every (c ∷ cs)
  unfolding cell_any
  other_cell_any s family ps every c cs e = ap (λ b. if b then any_offer n holds s a p c.values else cell_any n holds s a p family ps every cs) (sym e)

  pub this_cell : (s t : S) (out longer : List (Offer C)) (when : C) (family : ℕ) (ps : List Place) (every : List Place) (c : Cell C) (cs cells : List (Cell C)) (values : List (Offer C)) (b : Bool) → cells ≡ c ∷ cs → b ≡ is_cell_of n family ps c → b ≡ true → values ≡ c.values →
      Adds n holds s t a p out longer (holds s when a) (any_offer n holds s a p values) → Adds n holds s t a p out longer (holds s when a) (cell_any n holds s a p family ps every cells)
  this_cell s t out longer when family ps every c cs cells values b e is yes_it is_values h =
      subst (Adds n holds s t a p out longer (holds s when a)) (ap (any_offer n holds s a p) is_values ∙ (this_cell_any s family ps every c cs (sym is ∙ yes_it) ∙ ap (cell_any n holds s a p family ps every) (sym e))) h

  pub other_cell : (s t : S) (out longer : List (Offer C)) (when : C) (family : ℕ) (ps : List Place) (every : List Place) (c : Cell C) (cs cells : List (Cell C)) (b : Bool) → cells ≡ c ∷ cs → b ≡ is_cell_of n family ps c → b ≡ false →
      Adds n holds s t a p out longer (holds s when a) (cell_any n holds s a p family ps every cs) → Adds n holds s t a p out longer (holds s when a) (cell_any n holds s a p family ps every cells)
  other_cell s t out longer when family ps every c cs cells b e is not_it h =
      subst (Adds n holds s t a p out longer (holds s when a)) (other_cell_any s family ps every c cs (sym is ∙ not_it) ∙ ap (cell_any n holds s a p family ps every) (sym e)) h

pub values_made : {C : Type 0} (IsMade : C → Type 0) (c : Cell C) (cs cells : List (Cell C)) (values : List (Offer C)) → cells ≡ c ∷ cs → values ≡ c.values → AreCellsMade IsMade cells → AreOffersMade IsMade values
values_made IsMade c cs cells values e f m = let k = subst (AreCellsMade IsMade) e m in subst (AreOffersMade IsMade) (sym f) k.0

pub others_made : {C : Type 0} (IsMade : C → Type 0) (c : Cell C) (cs cells : List (Cell C)) → cells ≡ c ∷ cs → AreCellsMade IsMade cells → AreCellsMade IsMade cs
others_made IsMade c cs cells e m = let k = subst (AreCellsMade IsMade) e m in k.1

last : (b : Bool) → b ≡ (b || false)
last true = refl
last false = refl

-- the cell that is found gives the value, and where there is none each place of the type is given
cells-read : {S C : Type 0} (holds : S → C → (ℕ → Bool) → Bool) (s : S) (v : View) (a : ℕ → Bool) (p : AbsOutcome → Bool) (family : ℕ) (f : Family) (ps : List Place) (cs : List (Cell C)) →
    ((c : Cell C) → Has cs c → any_offer v.world.classes holds s a p c.values ≡ p (Some (v.state a c.family (map (place_in v.world.classes) c.indexes)))) →
    cell_any v.world.classes holds s a p family ps (places_in v.world f.value) cs ≡ list_any p (if list_any (is_cell_of v.world.classes family ps) cs then Some (v.state a family ps) ∷ [] else map Some (places_in v.world f.value))
unfolding cell_any
cells-read holds s v a p family f ps [] each = sym (any-map p Some (places_in v.world f.value))
cells-read {C = C} holds s v a p family f ps (c ∷ cs) each = at (is_cell_of v.world.classes family ps c) refl (cells-read holds s v a p family f ps cs (λ d there. each d (later there)))
  where
    at : (b : Bool) → is_cell_of v.world.classes family ps c ≡ b →
        cell_any v.world.classes holds s a p family ps (places_in v.world f.value) cs ≡ list_any p (if list_any (is_cell_of v.world.classes family ps) cs then Some (v.state a family ps) ∷ [] else map Some (places_in v.world f.value)) →
        (if b then any_offer v.world.classes holds s a p c.values else cell_any v.world.classes holds s a p family ps (places_in v.world f.value) cs) ≡ list_any p (if b || list_any (is_cell_of v.world.classes family ps) cs then Some (v.state a family ps) ∷ [] else map Some (places_in v.world f.value))
    at true e rest = each c first ∙ (ap (λ k. p (Some (v.state a k (map (place_in v.world.classes) c.indexes)))) (nat_eq-is c.family family (left_of (nat_eq c.family family) (same_places (map (place_in v.world.classes) c.indexes) ps) e))
        ∙ (ap (λ qs. p (Some (v.state a family qs))) (same_places-is (map (place_in v.world.classes) c.indexes) ps (right_of (nat_eq c.family family) (same_places (map (place_in v.world.classes) c.indexes) ps) e)) ∙ last (p (Some (v.state a family ps)))))
    at false e rest = rest

-- a read by cells is the read of the case
pub cell-reads : {S C : Type 0} (holds : S → C → (ℕ → Bool) → Bool) (s : S) (problem : Problem) (cells : List (Cell C)) (v : View) → IsSeen holds s problem cells v → (a : ℕ → Bool) (p : AbsOutcome → Bool) (family : ℕ) (f : Family) (ps : List Place) →
    cell_any v.world.classes holds s a p family ps (places_in v.world f.value) cells ≡ list_any p (places_at v.world v.kept (v.state a) family f (Some ps))
cell-reads holds s problem cells v h a p family f ps =
    cells-read holds s v a p family f ps cells (λ c there. h.values a p c there) ∙ ap (λ b. list_any p (if b then Some (v.state a family ps) ∷ [] else map Some (places_in v.world f.value))) (sym (h.kept family ps))
