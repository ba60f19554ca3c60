-- The laws: what the crate's public functions say.
use Rattle.std.specs.Prelude.{◌≡◌, ◌≢◌, ◌<◌, ℕ, List, [], ◌++◌, map, zip, length, get_or, slice_get, Some, true, false}
use Rattle.smv_core.specs.Values.{Value, number, Sizes}
use Rattle.smv_core.specs.FlatMeaning.{Numbered, FlatState, flat_outcome}
use Rattle.smv_core.specs.declared.flat.Simple.{Simple}
use Rattle.smv_core.specs.declared.flat.Design.{Design}
use Rattle.smv_core.specs.declared.flat.Family.{Family}
use Rattle.smv_core.specs.declared.flat.Claim.{Claim}
use Rattle.smv_core.specs.declared.flat.Param.{Param}
use Rattle.smv_core.specs.declared.flat.FlatSplit.{FlatSplit}
use Rattle.smv_core.specs.declared.flat.FlatPair.{FlatPair}
use Rattle.smv_core.specs.declared.flat.FlatExpr.{FlatExpr}
use Rattle.smv_core.specs.declared.flat.Unit.{Unit}
use Rattle.smv_core.specs.declared.flat.Guard.{Guard}
use Rattle.smv_core.specs.declared.flat.Leaf.{Leaf}
use Rattle.smv_core.specs.declared.flat.Choice.{Choice}
use Rattle.law_obligations.specs.Sets.{Has}
use Rattle.law_obligations.specs.Covers.{IsIndexType}
use Rattle.law_obligations.specs.Guards.{guard_holds}
use Rattle.law_obligations.specs.Soundness.{at_sizes, AreSizes, params_of, values_over}
use Rattle.law_obligations.specs.Outlines.{Entry, names_of, unit_in}
use Rattle.law_obligations.specs.Units.{units_of, script_of}
use Rattle.law_obligations.specs.Checked.{IsFilled, IsSplit}
use Rattle.law_splits.specs.Variables.{Occurrence, readings, renamed, IsNumbered}
use Rattle.law_splits.specs.Leaves.{named_by, name_of, stands_for, number_in, leaves_of}
use Rattle.law_splits.specs.SplitFaults.{is_stray, faults_of_splits}

-- a range or a set type that is not empty
pub record IsIndex (d : Design) (t : Simple) : Type 0 where
  pub is_index_type : IsIndexType t
  pub is_filled : IsFilled d t

-- What the passes before give of the design. Kinds: indexes, and the variables of `forall`, are over ranges and set types that are not empty. Flattening: the
-- variables of equations have as their numbers how many are bound around them.
pub record IsRead (d : Design) : Type 0 where
  pub families : (f : Family) → Has d.families f → (t : Simple) → Has f.over t → IsIndex d t
  pub claims : (claim : Claim) → Has d.claims claim → (p : Param) → Has claim.params p → IsIndex d p.over
  pub bound : (s : FlatSplit) → Has d.splits s → (p : Param) → Has s.bound p → IsIndex d p.over
  pub numbered : (s : FlatSplit) → Has d.splits s → (pair : FlatPair) → Has s.pairs pair → IsNumbered (length s.bound) pair.left

-- where a design has no fault of splits, its leaves have the unit's parameters and then those that the splits add, and guards of these
abbrev pub LeavesAreSplit : Type 0
LeavesAreSplit = (d : Design) → IsRead d → faults_of_splits d ≡ [] → (choices : List Choice) → (entry : Entry) → Has (script_of d (leaves_of d) choices).entries entry →
    IsSplit (script_of d (leaves_of d) choices) entry

-- then for each state and all values of a unit's parameters some values of those that its splits add meet all guards of its leaf
abbrev pub GuardsAreMet : Type 0
GuardsAreMet = (d : Design) → IsRead d → faults_of_splits d ≡ [] → (sizes : Sizes) → AreSizes (names_of d) sizes →
    (unit : Unit) (leaf : Leaf) → Has (zip (units_of d) (leaves_of d)) (unit, leaf) →
    (s : FlatState) (values : List Value) → Has (values_over (at_sizes (names_of d) sizes) (params_of (names_of d) (unit_in d unit))) values →
    (more : List Value) × Has (values_over (at_sizes (names_of d) sizes) (map (λ p. p.over) leaf.params)) (values ++ more)
    × ((g : Guard) → Has leaf.guards g → guard_holds (at_sizes (names_of d) sizes) s g.over g.expr (values ++ more) (get_or (values ++ more) g.var (number 0)) ≡ true)

-- these values of a leaf's parameters are those that the variables bound around a split have, where its brackets name them
abbrev pub StandFor : FlatSplit → List Value → List Value → Type 0
StandFor split own values = (length own ≡ length split.bound) × ((v k : ℕ) → v < length split.bound → stands_for split v ≡ Some k → slice_get values k ≡ slice_get own v)

-- an equation that reads no other variable has in a leaf with so many parameters the outcome that it has at the split's own variables
abbrev pub EquationsKeepOutcomes : Type 0
EquationsKeepOutcomes = (n : Numbered) (s : FlatState) (split : FlatSplit) (e : FlatExpr) → IsNumbered (length split.bound) e → ((x : Occurrence) → Has (readings e) x → is_stray split x ≡ false) →
    (own values : List Value) → StandFor split own values → flat_outcome n s (renamed (number_in split (length values)) e) values ≡ flat_outcome n s e own

-- no two splits have one name, and no unit has that of a split
pub record HasNamesApart (d : Design) : Type 0 where
  pub splits : (j k : ℕ) (s t : FlatSplit) → slice_get d.splits j ≡ Some s → slice_get d.splits k ≡ Some t → s.name ≡ t.name → j ≡ k
  pub units : (unit : Unit) → Has (units_of d) unit → (s : FlatSplit) → Has d.splits s → name_of d (unit_in d unit) ≢ s.name

-- where names are apart, each leaf is the end of its chain: no split is of it
abbrev pub LeavesAreEnds : Type 0
LeavesAreEnds = (d : Design) → HasNamesApart d → (leaf : Leaf) → Has (leaves_of d) leaf → (s : FlatSplit) → Has d.splits s → named_by s.of ≢ leaf.name

-- a leaf for each unit
abbrev pub OneLeafEach : Type 0
OneLeafEach = (d : Design) → length (leaves_of d) ≡ length (units_of d)
