-- What is carried from a text to its design, and from the design to the text.
use Rattle.std.specs.Prelude.{◌≡◌, ◌<◌, List, length}
use Rattle.std.specs.List.{AllZip}
use Rattle.smv_core.specs.Values.{Sizes}
use Rattle.smv_core.specs.FlatOrder.{design_of}
use Rattle.smv_core.specs.Outcome.{State}
use Rattle.smv_core.specs.Sound as tree
use Rattle.smv_core.specs.FlatMeaning.{FlatState}
use Rattle.smv_core.specs.declared.tree.Text.{Text}
use Rattle.smv_core.specs.declared.flat.Design.{Design}
use Rattle.smv_core.specs.declared.flat.Unit.{Unit}
use Rattle.smv_core.specs.declared.flat.Leaf.{Leaf}
use Rattle.smv_core.specs.declared.flat.Choice.{Choice}
use Rattle.law_designs.specs.Agreement.{AreSameStates}
use Rattle.law_designs.specs.Flattening.{flatten}
use Rattle.law_designs.specs.Definitions.{design_of_flat_text}
use Rattle.law_obligations.specs.Sets.{Has}
use Rattle.law_obligations.specs.Soundness.{at_sizes, IsRun}
use Rattle.law_obligations.specs.Outlines.{Outline, names_of, bases, unit_in}
use Rattle.law_obligations.specs.Units.{units_of, script_of}
use Rattle.law_obligations.specs.Checked.{IsProved, HoldsAlways}
use Rattle.law_sound_texts.specs.Whole.{HasSplits}

-- at any sizes the states of each run of a text, with its families by their numbers, are a run of its design
abbrev pub RunsAreCarried : Text → Type 0
RunsAreCarried text = (sizes : Sizes) (run : List State) → tree.IsRun (design_of text) sizes run → let d = design_of_flat_text (flatten text) in
    (flat_run : List FlatState) × AllZip (AreSameStates (design_of text).families) run flat_run × IsRun (at_sizes (names_of d) sizes) (bases d) flat_run

-- and each run of its design that is not empty is such a run of the text
abbrev pub RunsAreCarriedBack : Text → Type 0
RunsAreCarriedBack text = (sizes : Sizes) (flat_run : List FlatState) → 0 < length flat_run → let d = design_of_flat_text (flatten text) in IsRun (at_sizes (names_of d) sizes) (bases d) flat_run →
    (run : List State) × AllZip (AreSameStates (design_of text).families) run flat_run × tree.IsRun (design_of text) sizes run

-- every instance of every unit of a design holds at every time of every run, for all sizes
abbrev pub UnitsHold : Design → Type 0
UnitsHold d = (unit : Unit) → Has (units_of d) unit → HoldsAlways d (unit_in d unit)

-- a design with its units
abbrev pub outlined : Design → Outline
outlined d = record { design = d; units = units_of d }

-- a leaf and a choice for each unit of a design: the leaves are as the splits of their units ask, and no case of a leaf has a violating path
pub record HasProof (d : Design) : Type 0 where
  pub leaves : List Leaf
  pub choices : List Choice
  pub each_has_a_leaf : length leaves ≡ length (units_of d)
  pub each_has_a_choice : length choices ≡ length (units_of d)
  pub has_splits : HasSplits (script_of d leaves choices)
  pub is_proved : IsProved (script_of d leaves choices)
