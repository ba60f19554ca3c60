-- When cells are those of the elements of a case, in the states that the bits are read as.
use Rattle.std.specs.Prelude.{◌≡◌, ℕ, ◌+◌, ◌≤◌, List, [], ◌∷◌, map, slice_get, Some, Bool}
use Rattle.smv_core.specs.declared.flat.Element.{Element}
use Rattle.law_obligations.specs.Sets.{Has}
use Rattle.law_obligations.specs.Places.{AbsOutcome}
use Rattle.law_obligations.specs.May.{AbsState}
use Rattle.law_obligations.specs.Cones.{AbsElement}
use Rattle.law_obligations.specs.Codes.{code_from, value_of_code}
use Rattle.law_obligations.specs.Bits.{Bits}
use Rattle.law_obligations.specs.Readings.{PosedCase, bits_of, values_of}
use Rattle.smv_spots.specs.declared.spots.Spot.{Spot}
use Rattle.smv_spots.specs.Spots.{place_in}
use Rattle.smv_problem.specs.declared.problem.Problem.{Problem}
use Rattle.smv_readings.specs.StateBits.{count_for}
use Rattle.bdd_store.specs.declared.Ref.{Ref}
use Rattle.bdd_store.specs.Diagram.{Diagram, table}
use Rattle.bdd_codes.specs.Codes.{bits_at}
use Rattle.law_arrangements.specs.Arrangements.{Arrangement, spread, IsState, view}
use Rattle.smv_conditions.specs.declared.offers.Offer.{Offer}
use Rattle.smv_conditions.specs.Offers.{any_offer}
use Rattle.smv_cells.specs.declared.cells.Cell.{Cell}
use Rattle.smv_cells.specs.Seen.{View}

-- the state that the current bits of an assignment are read as over an arrangement, or that of the next bits
abbrev pub state_at : PosedCase → Arrangement → Bool → (ℕ → Bool) → AbsState
state_at c o next a = view c o (bits_at next a)

-- a case in these states
abbrev pub view_at : PosedCase → Arrangement → Bool → View
view_at c o next = record { world = c.problem.world; kept = c.problem.kept; state = state_at c o next }

-- whatever is read is a state of the case
abbrev pub AreStates : PosedCase → Arrangement → Type 0
AreStates c o = (s : Bits) → IsState c (view c o s)

-- values, each under its condition
abbrev pub paired : List Spot → List Ref → List (Offer Ref)
paired (p ∷ ps) (r ∷ rs) = record { outcome = Some p; when = r } ∷ paired ps rs
paired _ _ = []

-- the families of these elements have values
abbrev pub HaveValues : Problem → List Element → Type 0
HaveValues p elements = (x : Element) → Has elements x → 1 ≤ count_for p.lists p.types (slice_get p.families x.family)

-- each of some elements is one of these
abbrev pub AreAmong : List AbsElement → List AbsElement → Type 0
AreAmong all xs = (x : AbsElement) → Has xs x → Has all x

module _ (c : PosedCase) (order : List ℕ) (d : Diagram) (next : Bool) where
  -- the cell of an element, whose value is that of its code from this bit on
  pub record IsCoded (bit : ℕ) (x : AbsElement) (cell : Cell Ref) : Type 0 where
    pub family : cell.family ≡ x.family
    pub indexes : map (place_in c.problem.world.classes) cell.indexes ≡ x.indexes
    pub values : (a : ℕ → Bool) (p : AbsOutcome → Bool) → any_offer c.problem.world.classes table d a p cell.values ≡ p (Some (value_of_code (values_of c.problem.world x) (code_from (spread order (bits_at next a)) bit (bits_of c.problem.world x))))

  -- those of some elements, one behind the other
  abbrev pub AreCoded : ℕ → List AbsElement → List (Cell Ref) → Type 0
  AreCoded bit [] [] = Unit {0}
  AreCoded bit (x ∷ xs) (cell ∷ cells) = IsCoded bit x cell × AreCoded (bit + bits_of c.problem.world x) xs cells
  AreCoded bit _ _ = ⊥
