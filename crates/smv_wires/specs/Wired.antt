-- Elements that are tried one after the other: which have cells, in which states, and the conditions of the values of one.
use Rattle.std.specs.Prelude.{◌≡◌, ℕ, List, ◌∷◌, map, Some, Bool, true, not, ◌&&◌, ◌||◌}
use Rattle.std.specs.List.{list_any}
use Rattle.smv_core.specs.FlatMeaning.{Numbered}
use Rattle.law_obligations.specs.Places.{Place}
use Rattle.law_obligations.specs.May.{AbsState, Kept}
use Rattle.law_obligations.specs.Cones.{AbsElement, element, same_element}
use Rattle.law_obligations.specs.Readings.{PosedCase}
use Rattle.law_arrangements.specs.Arrangements.{view}
use Rattle.law_wires.specs.Tries.{PassAlone, trying, meets_with}
use Rattle.bdd_store.specs.declared.Ref.{Ref}
use Rattle.bdd_store.specs.Diagram.{Diagram, table}
use Rattle.bdd_codes.specs.Codes.{bits_at}
use Rattle.smv_spots.specs.Spots.{outcome_in}
use Rattle.smv_conditions.specs.declared.offers.Offer.{Offer}
use Rattle.smv_cells.specs.Seen.{View}

module _ (c : PosedCase) where
  -- what the case keeps, but these elements
  abbrev pub kept_beside : List AbsElement → Kept
  kept_beside xs family ps = c.problem.kept family ps && not (list_any (same_element (element family ps)) xs)

  -- and one of them
  abbrev pub kept_with : AbsElement → List AbsElement → Kept
  kept_with x left family ps = kept_beside (x ∷ left) family ps || same_element (element family ps) x

  module _ (order : List ℕ) (done : List AbsElement) where
    -- the state that an assignment is read as where these elements are worked out
    abbrev pub state_beside : List AbsElement → Bool → (ℕ → Bool) → AbsState
    state_beside left next a = view c (trying order done left) (bits_at next a)

    abbrev pub view_beside : List AbsElement → Bool → View
    view_beside left next = record { world = c.problem.world; kept = kept_beside left; state = state_beside left next }

    -- a value of the tried element meets its demands of now at an assignment
    abbrev pub meets_at : AbsElement → List AbsElement → Bool → (ℕ → Bool) → Place → Bool
    meets_at x left next a v = meets_with c (kept_with x left) (state_beside (x ∷ left) next a) x v

-- the conditions of some values at an assignment
abbrev pub whens : Diagram → (ℕ → Bool) → List (Offer Ref) → List Bool
whens d a offers = map (λ o. table d o.when a) offers

-- these are the values, each under the condition that it passes the test
pub record AreTests (n : Numbered) (d : Diagram) (a : ℕ → Bool) (test : Place → Bool) (values : List Place) (offers : List (Offer Ref)) : Type 0 where
  pub outcomes : map (λ o. outcome_in n o.outcome) offers ≡ map (λ p. Some p) values
  pub conditions : whens d a offers ≡ map test values

-- exactly one holds, of this and these
pub record HoldsAlone (found : Bool) (conditions : List Bool) : Type 0 where
  pub some : found || list_any (λ b. b) conditions ≡ true
  pub alone : PassAlone (λ b. b) found conditions
