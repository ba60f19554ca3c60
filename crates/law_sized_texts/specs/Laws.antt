-- The laws: what the crate's public functions say.
use Rattle.std.specs.Prelude.{◌≡◌, None}
use Rattle.smv_core.specs.Values.{Sizes}
use Rattle.smv_core.specs.declared.tree.Text.{Text}
use Rattle.law_designs.specs.Flattening.{flatten}
use Rattle.law_designs.specs.WellKinded.{IsWellKinded}
use Rattle.law_designs.specs.Definitions.{design_of_flat_text}
use Rattle.law_designs.specs.SingleFaults.{first_fault_of_single}
use Rattle.law_designs.specs.SetFaults.{first_fault_of_sets}
use Rattle.law_designs.specs.FirstFault.{first_fault_of_design}
use Rattle.law_obligations.specs.Soundness.{AreSizes}
use Rattle.law_obligations.specs.Outlines.{names_of}
use Rattle.law_concrete.specs.Runs.{IsExact}
use Rattle.law_sound_texts.specs.Extension.{ElementsCanBeChosen}

-- the design of a text is exact at all its sizes
abbrev pub DesignsAreExact : Type 0
DesignsAreExact = (text : Text) → IsWellKinded text → first_fault_of_single (flatten text) ≡ None → first_fault_of_sets (flatten text) ≡ None →
    (sizes : Sizes) → AreSizes (names_of (design_of_flat_text (flatten text))) sizes → IsExact (design_of_flat_text (flatten text)) sizes

-- any of its elements can be chosen after each state
abbrev pub ElementsOfTextsAreChosen : Type 0
ElementsOfTextsAreChosen = (text : Text) → IsWellKinded text → first_fault_of_design (design_of_flat_text (flatten text)) ≡ None → ElementsCanBeChosen (design_of_flat_text (flatten text))
