-- The first fault of a text that is spelled.
use Rattle.std.specs.Prelude.{Option}
use Rattle.smv_core.specs.declared.fault.Fault.{Fault}
use Rattle.smv_core.specs.declared.tree.Text.{Text}
use Rattle.smv_core.specs.declared.flat.FlatText.{FlatText}
use Rattle.smv_mentions.specs.FirstFault.{first_fault, or_else}
use Rattle.law_designs.specs.KindFaults.{first_fault_of_kinds}
use Rattle.law_designs.specs.Flattening.{flatten}
use Rattle.law_designs.specs.SingleFaults.{first_fault_of_single}
use Rattle.law_designs.specs.Definitions.{design_of_flat_text}
use Rattle.law_designs.specs.FirstFault.{first_fault_of_design}
use Rattle.law_designs.specs.SetFaults.{first_fault_of_sets}
use Rattle.smv_plans.specs.Plans.{plan_fault}

-- the first fault of a flattened text behind single assignment: of the loops and then of the layers of its design, or else of its set types, or else of the rules of proof
abbrev pub design_fault : FlatText → Option Fault
design_fault flat_text = or_else (first_fault_of_design (design_of_flat_text flat_text)) (or_else (first_fault_of_sets flat_text) (plan_fault (design_of_flat_text flat_text)))

-- the first fault of a flattened text
abbrev pub flat_text_fault : FlatText → Option Fault
flat_text_fault flat_text = or_else (first_fault_of_single flat_text) (design_fault flat_text)

-- the first fault of a text that is spelled, pass by pass: of its names and then of its size, or else of its kinds, or else of its flattened text
unfoldable pub text_fault : Text → Option Fault
text_fault text = or_else (first_fault text) (or_else (first_fault_of_kinds text) (flat_text_fault (flatten text)))
