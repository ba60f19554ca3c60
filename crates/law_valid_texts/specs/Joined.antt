-- The design of a text, what soundness asks of it, and what a search says of it.
use Rattle.std.specs.Prelude.{◌≡◌, ℕ, List, [], length, None}
use Rattle.smv_core.specs.Sound.{IsSound}
use Rattle.smv_core.specs.declared.tree.Text.{Text}
use Rattle.smv_core.specs.declared.flat.Design.{Design}
use Rattle.smv_core.specs.declared.flat.Choice.{Choice}
use Rattle.smv_bits.specs.declared.Bits.{Bits}
use Rattle.law_designs.specs.Flattening.{flatten}
use Rattle.law_designs.specs.WellKinded.{IsWellKinded}
use Rattle.law_designs.specs.SingleFaults.{first_fault_of_single}
use Rattle.law_designs.specs.Definitions.{design_of_flat_text}
use Rattle.law_designs.specs.FirstFault.{first_fault_of_design}
use Rattle.law_obligations.specs.Outlines.{Script}
use Rattle.law_obligations.specs.Units.{units_of, script_of}
use Rattle.law_splits.specs.SplitLaws.{IsRead}
use Rattle.law_splits.specs.Leaves.{leaves_of}
use Rattle.law_splits.specs.SplitFaults.{faults_of_splits}
use Rattle.law_obligations.specs.Scripts.{HaveValues}
use Rattle.smv_problem.specs.declared.report.Report.{Report}
use Rattle.law_reports.specs.Reports.{IsReportOf, AllTrueUnits}
use Rattle.law_reports.specs.Verdicts.{LeafVerdict, AreVerdicts, AllTrue}

-- the design of a text
abbrev pub flat_design : Text → Design
flat_design text = design_of_flat_text (flatten text)

-- its units with their leaves and these choices
abbrev pub script_with : Text → List Choice → Script
script_with text choices = script_of (flat_design text) (leaves_of (flat_design text)) choices

-- What soundness asks of a tree: some tokens spell it, and no pass finds a fault of names, size and kinds (7 to 14, 25), of single assignment (15 to 17), of loops and layers (18 to 20)
-- or of splits (23, 24). It asks nothing of set types (21, 22), uses (26 to 28), cases (29) and state bits (30).
pub record IsFitForProof (text : Text) : Type 0 where
  pub kinds : IsWellKinded text
  pub single : first_fault_of_single (flatten text) ≡ None
  pub design : first_fault_of_design (flat_design text) ≡ None
  pub splits : faults_of_splits (flat_design text) ≡ []

-- what the leaves and the bits ask of the design is so where kinds are right
abbrev pub WellKindedAreReady : Type 0
WellKindedAreReady = (text : Text) → IsWellKinded text → IsRead (flat_design text) × HaveValues (flat_design text)

-- a text that is fit for proof, and of which every unit is true, whatever the choices are, whatever the bits and whatever the budgets, is sound
abbrev pub TrueTextsAreSound : Type 0
TrueTextsAreSound = (text : Text) → IsFitForProof text → (choices : List Choice) → length choices ≡ length (units_of (flat_design text)) →
    (bits : Bits) (nodes steps : ℕ) (verdicts : List LeafVerdict) → AreVerdicts (script_with text choices) bits nodes steps verdicts → AllTrue verdicts → IsSound text

-- so is one of which a right report says that every unit is true
abbrev pub TrueReportsAreSound : Type 0
TrueReportsAreSound = (text : Text) → IsFitForProof text → (choices : List Choice) → length choices ≡ length (units_of (flat_design text)) →
    (bits : Bits) (nodes steps : ℕ) (report : Report) → IsReportOf (script_with text choices) bits nodes steps report → AllTrueUnits report.units → IsSound text
