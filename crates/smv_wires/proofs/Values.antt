-- The values of an element, tested one after the other.
use Rattle.std.proofs.Common.{◌≡◌, ℕ, zero, suc, ◌+◌, ◌<◌, ◌≤◌, List, [], ◌∷◌, ◌++◌, map, length, get_or, take, Bool, true, false, ◌&&◌, ◌||◌, refl, sym, ap, subst, ◌∙◌, Some, None, Option, arith}
use Rattle.std.specs.List.{slice_get}
use Rattle.std.proofs.lemmas.List.{take_more, take_all, map-append}
use Rattle.smv_core.specs.FlatMeaning.{Numbered}
use Rattle.smv_core.specs.declared.flat.Element.{Element}
use Rattle.smv_core.specs.declared.flat.Family.{Family}
use Rattle.law_obligations.specs.Sets.{Has, first, later}
use Rattle.law_obligations.specs.Places.{Place, World, AbsOutcome}
use Rattle.law_obligations.specs.Demands.{places_of_family}
use Rattle.law_obligations.specs.May.{Kept}
use Rattle.law_obligations.specs.Cones.{AbsElement}
use Rattle.law_obligations.specs.Readings.{PosedCase, values_in, values_of}
use Rattle.law_obligations.proofs.Members.{Has-map}
use Rattle.bdd_store.specs.declared.Ref.{Ref}
use Rattle.bdd_store.specs.Diagram.{Diagram, IsLive, Keeps, table}
use Rattle.smv_spots.specs.declared.spots.Spot.{Spot}
use Rattle.smv_spots.specs.Spots.{place_in, outcome_in}
use Rattle.smv_conditions.specs.declared.offers.Offer.{Offer}
use Rattle.smv_conditions.specs.Offers.{any_offer, AreOffersMade}
use Rattle.smv_problem.specs.declared.problem.Problem.{Problem}
use Rattle.smv_problem.specs.Written.{written_element}
use Rattle.smv_problem_spots.specs.Worlds.{IsWorldOf}
use Rattle.smv_cells.specs.declared.cells.Cell.{Cell}
use Rattle.smv_cells.specs.Cells.{AreCellsMade}
use Rattle.smv_wires.specs.Wired.{whens, AreTests}
use Rattle.smv_wires.proofs.Tests.{whens_kept, all_made}

-- ---- cells and offers that are made

pub made_pushed : (d : Diagram) (cells more : List (Cell Ref)) (cell : Cell Ref) → AreCellsMade (IsLive d) cells → AreOffersMade (IsLive d) cell.values → more ≡ cells ++ cell ∷ [] → AreCellsMade (IsLive d) more
made_pushed d cells more cell made is pushed = subst (AreCellsMade (IsLive d)) (sym pushed) (by cells made)
  where
    by : (cs : List (Cell Ref)) → AreCellsMade (IsLive d) cs → AreCellsMade (IsLive d) (cs ++ cell ∷ [])
    by [] m = (is, tt)
    by (c ∷ cs) m = (m.0, by cs m.1)

pub offer_pushed : (d e : Diagram) (offers more : List (Offer Ref)) (o : Offer Ref) → Keeps d e → AreOffersMade (IsLive d) offers → IsLive e o.when → more ≡ offers ++ o ∷ [] → AreOffersMade (IsLive e) more
offer_pushed d e offers more o k made live pushed = subst (AreOffersMade (IsLive e)) (sym pushed) (by offers (all_made d e offers k made))
  where
    by : (os : List (Offer Ref)) → AreOffersMade (IsLive e) os → AreOffersMade (IsLive e) (os ++ o ∷ [])
    by [] m = (live, tt)
    by (q ∷ os) m = (m.0, by os m.1)

-- ---- a value that an element has at each assignment

pub only_offered : (n : Numbered) (d : Diagram) (a : ℕ → Bool) (q : AbsOutcome → Bool) (value : Spot) (offers : List (Offer Ref)) →
    ((when : Ref) × (offers ≡ record { outcome = Some value; when = when } ∷ []) × ((a : ℕ → Bool) → table d when a ≡ true)) → any_offer n table d a q offers ≡ q (Some (place_in n value))
unfolding any_offer
only_offered n d a q value offers (when, is, always) =
    ap (any_offer n table d a q) is ∙ (ap (λ (b : Bool). (b && q (Some (place_in n value))) || false) (always a) ∙ or_none (q (Some (place_in n value))))
  where
    or_none : (b : Bool) → b || false ≡ b
    or_none true = refl
    or_none false = refl

-- ---- one value after the other

pub tests_more : (n : Numbered) (d e : Diagram) (a : ℕ → Bool) (test : Place → Bool) (spots : List Spot) (i : ℕ) (spot : Spot) (offers more : List (Offer Ref)) (when : Ref) → i < length spots → spot ≡ get_or spots i spot → Keeps d e → AreOffersMade (IsLive d) offers
    → more ≡ offers ++ record { outcome = Some spot; when = when } ∷ [] → table e when a ≡ test (place_in n spot) → AreTests n d a test (map (place_in n) (take i spots)) offers → AreTests n e a test (map (place_in n) (take (i + 1) spots)) more
tests_more n d e a test spots i spot offers more when lt at k made pushed is tests = record {
  outcomes =
      ap (map outcome_of) pushed
      ∙ (map-append outcome_of offers (record { outcome = Some spot; when = when } ∷ [])
      ∙ (ap (λ us. us ++ Some (place_in n spot) ∷ []) tests.outcomes ∙ (sym (map-append (λ p. Some p) (map (place_in n) (take i spots)) (place_in n spot ∷ [])) ∙ ap (map (λ p. Some p)) (sym taken))));
  conditions =
      ap (whens e a) pushed
      ∙ (map-append (λ (o : Offer Ref). table e o.when a) offers (record { outcome = Some spot; when = when } ∷ [])
      ∙ (ap (λ bs. bs ++ table e when a ∷ []) (whens_kept d e a offers k made ∙ tests.conditions)
      ∙ (ap (λ (b : Bool). map test (map (place_in n) (take i spots)) ++ b ∷ []) is ∙ (sym (map-append test (map (place_in n) (take i spots)) (place_in n spot ∷ [])) ∙ ap (map test) (sym taken)))));
}
  where
    outcome_of : Offer Ref → AbsOutcome
    outcome_of o = outcome_in n o.outcome

    taken : map (place_in n) (take (i + 1) spots) ≡ map (place_in n) (take i spots) ++ place_in n spot ∷ []
    taken = ap (map (place_in n)) (take_more spots i spot lt ∙ ap (λ (s : Spot). take i spots ++ s ∷ []) (sym at)) ∙ map-append (place_in n) (take i spots) (spot ∷ [])

-- the last of them
pub tests_whole : (n : Numbered) (d : Diagram) (a : ℕ → Bool) (test : Place → Bool) (spots : List Spot) (i : ℕ) (values : List Place) (offers : List (Offer Ref)) → length spots ≤ i → map (place_in n) spots ≡ values → AreTests n d a test (map (place_in n) (take i spots)) offers → AreTests n d a test values offers
tests_whole n d a test spots i values offers le are tests = subst (λ (ps : List Place). AreTests n d a test ps offers) (ap (map (place_in n)) (take_all i spots le) ∙ are) tests

-- ---- the values of a family

-- the member of a list at a place, whatever stands for none
pub at_item : {X : Type 0} (xs : List X) (i : ℕ) (d : X) → i < length xs → get_or xs i d ≡ get_or xs i (get_or xs i d)
at_item [] i d lt = absurd (omega arith)
at_item (y ∷ xs) zero d lt = refl
at_item (y ∷ xs) (suc i) d lt = at_item xs i d (omega arith)

Has_at : {X : Type 0} (xs : List X) (i : ℕ) (x : X) → i < length xs → x ≡ get_or xs i x → Has xs x
Has_at [] i x lt at = absurd (omega arith)
Has_at (y ∷ xs) zero x lt at = subst (Has (y ∷ xs)) (sym at) first
Has_at (y ∷ xs) (suc i) x lt at = later (Has_at xs i x (omega arith) at)

pub values_are : (c : PosedCase) (p : Problem) (x : AbsElement) (x' : Element) → x' ≡ written_element x → IsWorldOf p c.problem.world → (spots : List Spot)
    → ((w : World) (kept : Kept) → IsWorldOf p w → map (place_in w.classes) spots ≡ places_of_family w kept (slice_get w.classes.families x'.family)) → map (place_in c.problem.world.classes) spots ≡ values_of c.problem.world x
values_are c p x x' e world spots are =
    are c.problem.world c.problem.kept world
    ∙ (ap (λ (y : Element). places_of_family c.problem.world c.problem.kept (slice_get c.problem.world.classes.families y.family)) e ∙ by (slice_get c.problem.world.classes.families x.family))
  where
    by : (o : Option Family) → places_of_family c.problem.world c.problem.kept o ≡ values_in c.problem.world o
    by None = refl
    by (Some f) = refl

pub value_there : (c : PosedCase) (x : AbsElement) (spots : List Spot) → map (place_in c.problem.world.classes) spots ≡ values_of c.problem.world x → (i : ℕ) (spot : Spot) → i < length spots → spot ≡ get_or spots i spot → Has (values_of c.problem.world x) (place_in c.problem.world.classes spot)
value_there c x spots are i spot lt at = subst (λ (ps : List Place). Has ps (place_in c.problem.world.classes spot)) are (Has-map (place_in c.problem.world.classes) (Has_at spots i spot lt at))
