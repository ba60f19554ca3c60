use Rattle.std.proofs.Common.{◌≡◌, ℕ, Bool, List, [], ◌∷◌, map, take}
use Rattle.law_obligations.specs.Cones.{AbsElement}
use Rattle.law_wires.specs.Tries.{IsTry}
use Rattle.bdd_store.specs.Diagram.{IsLive, Keeps, table}
use Rattle.smv_spots.specs.Spots.{place_in}
use Rattle.smv_conditions.specs.Offers.{AreOffersMade}
use Rattle.smv_problem.specs.WellFormed.{OfCases}
use Rattle.smv_cells.specs.Seen.{IsSeen}
use Rattle.smv_encode.specs.Parts.{AreElements}
use Rattle.smv_wires.specs.Wired.{view_beside, meets_at, AreTests}
use Rattle.smv_wires.proofs.tested.tested_values.Given as goal

abbrev pub invariant-loop-spot : goal.invariant-loop-spot
invariant-loop-spot l = record {
  keeps : Keeps l.initial.store l.store;
  made : AreOffersMade (IsLive l.store) l.offers;
  same : l.cells.items ≡ l.initial.cells.items;
  tests : OfCases l.problem (λ c. (order : List ℕ) (done : List AbsElement) (x : AbsElement) (left : List AbsElement) (next : Bool) → AreElements c (x ∷ []) (l.element ∷ []) → IsTry c order done x left → IsSeen table l.initial.store l.problem l.initial.cells.items (view_beside c order done (x ∷ left) next) → (a : ℕ → Bool) → AreTests c.problem.world.classes l.store a (meets_at c order done x left next a) (map (place_in c.problem.world.classes) (take l.spot-index l.spot-items)) l.offers);
}
