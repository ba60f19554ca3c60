-- The first fault of a tree: that of the earliest pass which has one. Each pass says which of its own comes first.
use Rattle.std.specs.Prelude.{List, [], ◌∷◌, flat_map, zip, option_to_list, Option, Some, None}
use Rattle.smv_core.specs.declared.fault.Fault.{Fault}
use Rattle.smv_core.specs.declared.tree.Text.{Text}
use Rattle.smv_core.specs.declared.flat.Design.{Design}
use Rattle.smv_core.specs.declared.flat.Leaf.{Leaf}
use Rattle.smv_core.specs.declared.flat.Choice.{Choice}
use Rattle.smv_mentions.specs.FirstFault.{first_fault, first_of}
use Rattle.law_designs.specs.KindFaults.{first_fault_of_kinds}
use Rattle.law_designs.specs.Flattening.{flatten}
use Rattle.law_designs.specs.SingleFaults.{first_fault_of_single}
use Rattle.law_designs.specs.FirstFault.{first_fault_of_design}
use Rattle.law_designs.specs.SetFaults.{first_fault_of_sets}
use Rattle.law_splits.specs.Leaves.{leaves_of}
use Rattle.law_splits.specs.SplitFaults.{first_fault_of_splits}
use Rattle.law_obligations.specs.LeafCases.{leaf_cases}
use Rattle.law_uses.specs.Choices.{choices_of}
use Rattle.law_uses.specs.UseFaults.{first_fault_of_uses}
use Rattle.law_problems.specs.Parts.{cases_fault, width_fault}
use Rattle.law_valid_texts.specs.Joined.{flat_design}

-- the first of what may be there
abbrev pub first_there : List (Option Fault) → Option Fault
first_there [] = None
first_there (None ∷ faults) = first_there faults
first_there (Some f ∷ faults) = Some f

-- the leaves of a design, each with what `using` states for it
abbrev pub parts_of : Design → List (Leaf × Choice)
parts_of d = zip (leaves_of d) (choices_of d)

-- fault 29 at the unit of each leaf with too many parameters or cases
abbrev pub faults_of_cases : Design → List Fault
faults_of_cases d = flat_map (λ (leaf, choice). option_to_list (cases_fault d leaf choice)) (parts_of d)

-- fault 30 at the unit of each leaf, for each of its cases that has too many state bits
abbrev pub faults_of_widths : Design → List Fault
faults_of_widths d =
    flat_map (λ (leaf, choice). flat_map (λ classes. option_to_list (width_fault d leaf choice classes)) (leaf_cases d.sets leaf.params choice.keeps)) (parts_of d)

-- the passes in their order: names and then the size (7 to 11, 25), kinds (12 to 14), single assignment (15 to 17), loops and layers (18 to 20), set types (21, 22),
-- splits (23, 24), uses (26 to 28), cases (29) and their state bits (30)
abbrev pub faults_by_pass : Text → List (Option Fault)
faults_by_pass tree =
    first_fault tree
    ∷ first_fault_of_kinds tree
    ∷ first_fault_of_single (flatten tree)
    ∷ first_fault_of_design (flat_design tree)
    ∷ first_fault_of_sets (flatten tree)
    ∷ first_fault_of_splits (flat_design tree)
    ∷ first_fault_of_uses (flat_design tree)
    ∷ first_of (faults_of_cases (flat_design tree))
    ∷ first_of (faults_of_widths (flat_design tree))
    ∷ []

-- the first fault of a tree, of all passes in their order
unfoldable pub pass_fault : Text → Option Fault
pass_fault tree = first_there (faults_by_pass tree)
