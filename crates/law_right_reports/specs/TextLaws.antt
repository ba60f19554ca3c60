-- Laws of valid texts.
use Rattle.std.specs.Prelude.{◌≡◌, ◌↔◌, ℕ, List, map, zip}
use Rattle.std.specs.List.{AllZip}
use Rattle.smv_core.specs.FlatOrder.{design_of}
use Rattle.smv_core.specs.Sound.{units}
use Rattle.smv_core.specs.declared.tree.Text.{Text}
use Rattle.smv_core.specs.declared.flat.Leaf.{Leaf}
use Rattle.smv_core.specs.declared.flat.Unit.{Unit}
use Rattle.law_obligations.specs.Sets.{Has}
use Rattle.law_obligations.specs.Outlines.{unit_in}
use Rattle.law_obligations.specs.Units.{units_of}
use Rattle.law_obligations.specs.Checked.{HoldsAlways}
use Rattle.law_splits.specs.Leaves.{leaves_of}
use Rattle.law_valid_texts.specs.Joined.{flat_design}
use Rattle.law_valid_texts.specs.Reports.{IsValid}
use Rattle.law_units.specs.TextUnits.{IsSameUnit, written_name, names_in}
use Rattle.law_units.specs.LeafInstances.{LeafHoldsAlways}

-- the units of a valid text are those of its design, in the same order
abbrev pub TextsHaveTheirUnits : Type 0
TextsHaveTheirUnits = (text : List ℕ) (tree : Text) → IsValid text tree → AllZip (IsSameUnit tree) (units (design_of tree)) (units_of (flat_design tree))

-- and with the same names
abbrev pub TextsHaveTheirNames : Type 0
TextsHaveTheirNames = (text : List ℕ) (tree : Text) → IsValid text tree → map written_name (units (design_of tree)) ≡ names_in (flat_design tree)

-- each unit always holds exactly where its leaf does
abbrev pub LeavesHoldAsUnits : Type 0
LeavesHoldAsUnits = (text : List ℕ) (tree : Text) → IsValid text tree → (unit : Unit) (leaf : Leaf) → Has (zip (units_of (flat_design tree)) (leaves_of (flat_design tree))) (unit, leaf) →
    LeafHoldsAlways (flat_design tree) (unit_in (flat_design tree) unit) leaf ↔ HoldsAlways (flat_design tree) (unit_in (flat_design tree) unit)
