-- What is known stays so where conditions are added, and answers for each expression that is the same under bindings that agree.
use Rattle.std.proofs.Common.{◌≡◌, ℕ, List, [], ◌∷◌, ◌++◌, map, Bool, inl, inr, refl, sym, ap, ◌∙◌, subst}
use Rattle.std.specs.List.{list_any}
use Rattle.std.proofs.Common.{Bor}
use Rattle.smv_core.specs.declared.flat.FlatExpr.{FlatExpr}
use Rattle.law_obligations.specs.Sets.{Has, first, later}
use Rattle.law_obligations.specs.Places.{AbsOutcome}
use Rattle.law_obligations.specs.Mix.{shown_of}
use Rattle.law_obligations.specs.FreeReads.{reads, Agree}
use Rattle.law_obligations.proofs.FreeVariables.{may_alike}
use Rattle.law_obligations.proofs.Members.{Has-cases}
use Rattle.smv_problem.specs.declared.problem.Problem.{Problem}
use Rattle.smv_spots.specs.declared.spots.Spot.{Spot}
use Rattle.smv_spots.specs.Spots.{place_in}
use Rattle.smv_conditions.specs.declared.offers.Offer.{Offer}
use Rattle.smv_conditions.specs.declared.offers.May.{May}
use Rattle.smv_conditions.specs.declared.offers.May.TheVariants.{Truths, Values}
use Rattle.smv_conditions.specs.declared.chances.Chances.{Chances}
use Rattle.smv_conditions.specs.Keep.{KeepsConditions}
use Rattle.smv_conditions.specs.Chances.{AreMade, mix_at}
use Rattle.smv_conditions.specs.Offers.{any_may, Offers, IsMayMade, AreOffersMade}
use Rattle.smv_conditions.proofs.AddLaws.{offers_same}
use Rattle.smv_conditions.proofs.ChainLaws.{mix_kept}
use Rattle.smv_cells.specs.declared.cells.Cell.{Cell}
use Rattle.smv_cells.specs.Cells.{AreCellsMade}
use Rattle.smv_cells.specs.Seen.{View, IsSeen, outcomes}
use Rattle.smv_free_variables.specs.Reading.{occurs}
use Rattle.smv_free_variables.specs.declared.known.Entry.{Entry}
use Rattle.smv_free_variables.specs.Known.{Answers, IsKnownOf}
use Rattle.smv_free_variables.proofs.PlaceLaws.{may_same}
use Rattle.smv_outcomes.specs.Outcomes.{IsMayOf}
use Rattle.smv_outcomes.specs.Remembered.{AreKnown, Remembers}
use Rattle.smv_outcomes.proofs.AlikeLaws.{placed_alike}

-- nothing is known
pub none_known : {S C : Type 0} (IsMade : S → C → Type 0) (holds : S → C → (ℕ → Bool) → Bool) (s : S) (problem : Problem) (cells : List (Cell C)) (entries : List (Entry (Chances C))) → entries ≡ [] → AreKnown IsMade holds s problem cells entries
unfolding AreKnown
none_known {S} {C} IsMade holds s problem cells entries e x there = absurd (at x (subst (λ (l : List (Entry (Chances C))). Has l x) e there))
  where
    at : (x : Entry (Chances C)) → Has [] x → ⊥
    at x h = elim h [ ]

cell_made : {C : Type 0} (IsMade : C → Type 0) (cells : List (Cell C)) (c : Cell C) → Has cells c → AreCellsMade IsMade cells → AreOffersMade IsMade c.values
cell_made IsMade [] d there m = elim there [ ]
cell_made IsMade (c ∷ cs) d first m = m.0
cell_made IsMade (c ∷ cs) d (later there) m = cell_made IsMade cs d there m.1

-- what is read at a later state of the conditions was read at the one before
pub seen_before : {S C : Type 0} (IsMade : S → C → Type 0) (holds : S → C → (ℕ → Bool) → Bool) (room : S → ℕ) (s t : S) (problem : Problem) (cells : List (Cell C)) (v : View) → KeepsConditions IsMade holds room s t → AreCellsMade (IsMade s) cells → IsSeen holds t problem cells v → IsSeen holds s problem cells v
seen_before IsMade holds room s t problem cells v k m h = record {
  view = h.view;
  world = h.world;
  values = λ a p c there. sym (offers_same v.world.classes IsMade holds room a p s t c.values k (cell_made (IsMade s) cells c there m)) ∙ h.values a p c there;
  kept = h.kept;
}

-- what an expression may be, where the same conditions mean the same
may_kept : {S C : Type 0} (IsMade : S → C → Type 0) (holds : S → C → (ℕ → Bool) → Bool) (room : S → ℕ) (s t : S) (v : View) (e : FlatExpr) (b : List Spot) (x : Chances C) → KeepsConditions IsMade holds room s t → AreMade (IsMade s) x → IsMayOf holds s v e b (Truths x) → IsMayOf holds t v e b (Truths x)
unfolding IsMayOf Offers any_may
may_kept IsMade holds room s t v e b x k m may a p = ap (λ y. list_any p (shown_of y)) (mix_kept IsMade holds room a s t x k m) ∙ may a p

pub known_kept : {S C : Type 0} (IsMade : S → C → Type 0) (holds : S → C → (ℕ → Bool) → Bool) (room : S → ℕ) (s t : S) (problem : Problem) (cells : List (Cell C)) (entries : List (Entry (Chances C))) → KeepsConditions IsMade holds room s t → AreCellsMade (IsMade s) cells → AreKnown IsMade holds s problem cells entries → AreKnown IsMade holds t problem cells entries
unfolding AreKnown
known_kept IsMade holds room s t problem cells entries k m known x there =
    let here = known x there in (
      record { no = k.made x.answer.no here.0.no; yes = k.made x.answer.yes here.0.yes; neither = k.made x.answer.neither here.0.neither },
      λ v h. may_kept IsMade holds room s t v x.of.now x.bindings x.answer k here.0 (here.1 v (seen_before IsMade holds room s t problem cells v k m h)),
    )

-- what is found
pub found_made : {S C : Type 0} (IsMade : S → C → Type 0) (holds : S → C → (ℕ → Bool) → Bool) (s : S) (problem : Problem) (cells : List (Cell C)) (entries : List (Entry (Chances C))) (e : FlatExpr) (b : List Spot) (x : Chances C) → IsKnownOf entries e b x → AreKnown IsMade holds s problem cells entries → AreMade (IsMade s) x
unfolding AreKnown
found_made IsMade holds s problem cells entries e b x (y, (there, (same, is))) known = subst (AreMade (IsMade s)) is (known y there).0

pub found_is : {S C : Type 0} (IsMade : S → C → Type 0) (holds : S → C → (ℕ → Bool) → Bool) (s : S) (problem : Problem) (cells : List (Cell C)) (entries : List (Entry (Chances C))) (e : FlatExpr) (b : List Spot) (x : Chances C) → IsKnownOf entries e b x → AreKnown IsMade holds s problem cells entries →
    (v : View) → IsSeen holds s problem cells v → IsMayOf holds s v e b (Truths x)
unfolding AreKnown IsMayOf outcomes occurs
found_is {S} {C} IsMade holds s problem cells entries e b x (y, (there, (same, is))) known v h a =
    let here = (known y there).1 v h a in
    let spots : List Spot → List _ = map (place_in v.world.classes) in
    let alike = may_same v.world v.kept (v.state a) y.of.now e (spots y.bindings) same.same ∙ may_alike v.world v.kept (v.state a) e (spots y.bindings) (spots b) (placed_alike (place_in v.world.classes) (λ k. reads k e) y.bindings b same.agree) in
    subst (λ (z : Chances C). Offers v.world.classes holds s a (Truths z) (outcomes v a e b)) is (subst (λ us. Offers v.world.classes holds s a (Truths y.answer) us) alike here)

-- one more
pub known_more : {S C : Type 0} (IsMade : S → C → Type 0) (holds : S → C → (ℕ → Bool) → Bool) (s : S) (problem : Problem) (cells : List (Cell C)) (old new : List (Entry (Chances C))) (e : Bor FlatExpr) (b : List Spot) (m : May C) → Remembers old new e b m → IsMayMade (IsMade s) m →
    ((v : View) → IsSeen holds s problem cells v → IsMayOf holds s v e.now b m) → AreKnown IsMade holds s problem cells old → AreKnown IsMade holds s problem cells new
unfolding AreKnown
known_more {S} {C} IsMade holds s problem cells old new e b (Truths x) is made may known y there =
    elim (Has-cases old _ (subst (λ (l : List (Entry (Chances C))). Has l y) is there)) [ inl h ↦ known y h | inr h ↦ at y h ]
  where
    at : (y : Entry (Chances C)) → Has (record { of = e; bindings = b; answer = x } ∷ []) y → AreMade (IsMade s) y.answer × ((v : View) → IsSeen holds s problem cells v → IsMayOf holds s v y.of.now y.bindings (Truths y.answer))
    at y first = (made, may)
    at y (later h) = elim h [ ]
known_more {S} {C} IsMade holds s problem cells old new e b (Values offers) is made may known y there = known y (subst (λ (l : List (Entry (Chances C))). Has l y) is there)
