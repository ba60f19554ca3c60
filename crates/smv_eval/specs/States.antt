-- States of a problem by its numbers: which values its elements may have, and the cells of a state.
use Rattle.std.specs.Prelude.{ℕ, List, [], ◌∷◌, get_or, slice_get, Option, Some, None, Bool, true, false, ◌&&◌, nat_le, nat_lt}
use Rattle.smv_core.specs.declared.flat.Simple.{Simple}
use Rattle.smv_core.specs.declared.flat.Simple.TheVariants.{Range, Enum, Set}
use Rattle.smv_core.specs.declared.flat.Family.{Family}
use Rattle.smv_core.specs.declared.flat.Element.{Element}
use Rattle.law_obligations.specs.Soundness.{over_of}
use Rattle.law_obligations.specs.May.{AbsState}
use Rattle.law_obligations.specs.Readings.{PosedCase}
use Rattle.smv_spots.specs.Spots.{classes_of, rests_of}
use Rattle.smv_problem.specs.declared.problem.Problem.{Problem}
use Rattle.smv_problem.specs.declared.problem.AbsValue.{AbsValue}
use Rattle.smv_problem.specs.declared.problem.AbsValue.TheVariants.{Number, Constant, Named, Rest}
use Rattle.smv_typed_spots.specs.TypedSpots.{class_spots, value_spot}
use Rattle.smv_conditions.specs.declared.stores.Plain.{Plain}
use Rattle.smv_cells.specs.declared.cells.Cell.{Cell}
use Rattle.smv_cells.specs.Seen.{View}

-- the type of a family's values; one that is not there has no value
abbrev pub type_of : Option Family → Simple
type_of (Some f) = f.value
type_of None = Range 1 0

-- a value of a type
abbrev pub is_value : Problem → Simple → AbsValue → Bool
is_value p (Range low high) (Number k) = nat_le low k && nat_le k high
is_value p (Enum list) (Constant k) = nat_lt k (get_or p.lists list 0)
is_value p (Set set) (Named k) = nat_lt k (classes_of (slice_get p.types set))
is_value p (Set set) (Rest g) = nat_lt g (rests_of (slice_get p.types set))
is_value p _ _ = false

-- one value for each of some elements, of its type
abbrev pub are_values : Problem → List Element → List AbsValue → Bool
are_values p [] [] = true
are_values p (x ∷ elements) (v ∷ values) = is_value p (type_of (slice_get p.families x.family)) v && are_values p elements values
are_values p _ _ = false

-- the cell of an element that has this value
abbrev pub state_cell : Problem → Element → AbsValue → Cell Bool
state_cell p x v = record {
  family = x.family;
  indexes = class_spots (over_of (slice_get p.families x.family)) x.indexes;
  values = record { outcome = value_spot (type_of (slice_get p.families x.family)) v; when = true } ∷ [];
}

-- those of elements with these values
abbrev pub state_cells : Problem → List Element → List AbsValue → List (Cell Bool)
state_cells p (x ∷ elements) (v ∷ values) = state_cell p x v ∷ state_cells p elements values
state_cells p _ _ = []

-- plain conditions hold everywhere or nowhere
abbrev pub plainly : Plain → Bool → (ℕ → Bool) → Bool
plainly s c a = c

-- a case in one state, at each assignment
abbrev pub view_of : PosedCase → AbsState → View
view_of c a = record { world = c.problem.world; kept = c.problem.kept; state = λ assignment. a }
