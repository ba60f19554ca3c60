-- Instances of leaves: a leaf says of its unit that it holds where the guards hold.
use Rattle.std.specs.Prelude.{◌≡◌, List, [], ◌++◌, map, zip, take, length, get_or, Option, None, Bool, true, not, ◌||◌}
use Rattle.std.specs.List.{list_all}
use Rattle.smv_core.specs.Values.{Value, number, Sizes}
use Rattle.smv_core.specs.FlatMeaning.{Numbered, FlatState}
use Rattle.smv_core.specs.declared.flat.Simple.{Simple}
use Rattle.smv_core.specs.declared.flat.Design.{Design}
use Rattle.smv_core.specs.declared.flat.Guard.{Guard}
use Rattle.smv_core.specs.declared.flat.Leaf.{Leaf}
use Rattle.smv_core.specs.declared.flat.Unit.{Unit}
use Rattle.law_obligations.specs.Sets.{Has}
use Rattle.law_obligations.specs.Guards.{guard_holds}
use Rattle.law_obligations.specs.Circular.{Demand, always}
use Rattle.law_obligations.specs.Soundness.{FlatUnit, at_sizes, AreSizes, params_of, values_over, is_held, IsRun}
use Rattle.law_obligations.specs.Outlines.{names_of, bases, unit_in}
use Rattle.law_obligations.specs.Units.{units_of}
use Rattle.law_obligations.specs.Checked.{HoldsAlways}
use Rattle.law_splits.specs.Leaves.{leaves_of}
use Rattle.law_splits.specs.SplitFaults.{faults_of_splits}
use Rattle.law_splits.specs.SplitLaws.{IsRead}

-- the types of a leaf's parameters
abbrev pub types_of : Leaf → List Simple
types_of leaf = map (λ p. p.over) leaf.params

module _ (n : Numbered) where
  -- all of these guards hold in a state, at these values of the leaf's parameters
  abbrev pub all_hold : List Guard → List Value → FlatState → Bool
  all_hold guards values now = list_all (λ g. guard_holds n now g.over g.expr values (get_or values g.var (number 0))) guards

  -- an instance of a leaf holds: where its guards hold, its unit holds at the unit's own parameters, which are the first
  abbrev pub is_leaf_held : FlatUnit → Leaf → List Value → Demand FlatState
  is_leaf_held unit leaf values before now = not (all_hold leaf.guards values now) || is_held n unit (take (length (params_of n unit)) values) before now

-- a unit of a design without a fault of splits, and its leaf
pub record IsLeafIn (d : Design) (unit : Unit) (leaf : Leaf) : Type 0 where
  pub is_read : IsRead d
  pub no_fault : faults_of_splits d ≡ []
  pub are_paired : Has (zip (units_of d) (leaves_of d)) (unit, leaf)

-- an instance of a unit holds at a time, if each instance of its leaf holds there in which the unit's own parameters have these values
abbrev pub HeldByLeaves : Type 0
HeldByLeaves = (d : Design) (unit : Unit) (leaf : Leaf) → IsLeafIn d unit leaf → (sizes : Sizes) → AreSizes (names_of d) sizes → Instances (at_sizes (names_of d) sizes) (unit_in d unit) leaf
  where
    Instances : Numbered → FlatUnit → Leaf → Type 0
    Instances n unit leaf = (before : Option FlatState) (now : FlatState) (values : List Value) → Has (values_over n (params_of n unit)) values →
        ((more : List Value) → Has (values_over n (types_of leaf)) (values ++ more) → is_leaf_held n unit leaf (values ++ more) before now ≡ true) → is_held n unit values before now ≡ true

-- every instance of a leaf holds at every time of every run, for all sizes
abbrev pub LeafHoldsAlways : Design → FlatUnit → Leaf → Type 0
LeafHoldsAlways d unit leaf = (sizes : Sizes) → AreSizes (names_of d) sizes → (run : List FlatState) → IsRun (at_sizes (names_of d) sizes) (bases d) run →
    Instances (at_sizes (names_of d) sizes) run
  where
    Instances : Numbered → List FlatState → Type 0
    Instances n run = (values : List Value) → Has (values_over n (types_of leaf)) values → always (is_leaf_held n unit leaf values) None run ≡ true

-- a unit always holds if its leaf does
abbrev pub HoldsByLeaf : Type 0
HoldsByLeaf = (d : Design) (unit : Unit) (leaf : Leaf) → IsLeafIn d unit leaf → LeafHoldsAlways d (unit_in d unit) leaf → HoldsAlways d (unit_in d unit)

-- and a leaf always holds if its unit does
abbrev pub LeavesHold : Type 0
LeavesHold = (d : Design) (unit : Unit) (leaf : Leaf) → IsLeafIn d unit leaf → HoldsAlways d (unit_in d unit) → LeafHoldsAlways d (unit_in d unit) leaf
