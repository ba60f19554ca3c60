-- The cases with too many state bits of the leaves of a design.
use Rattle.std.specs.Prelude.{◌≡◌, ℕ, List, flat_map, zip, slice_get, option_to_list, Some, None}
use Rattle.smv_core.specs.declared.fault.Fault.{Fault}
use Rattle.smv_core.specs.declared.flat.Class.{Class}
use Rattle.smv_core.specs.declared.flat.Design.{Design}
use Rattle.smv_core.specs.declared.flat.Leaf.{Leaf}
use Rattle.smv_core.specs.declared.flat.Choice.{Choice}
use Rattle.law_obligations.specs.LeafCases.{leaf_cases}
use Rattle.law_problems.specs.Parts.{IsPart, cases_fault, width_fault}

-- those of these cases of a leaf
abbrev pub faults_in : Design → Leaf → Choice → List (List Class) → List Fault
faults_in d leaf choice cases = flat_map (λ classes. option_to_list (width_fault d leaf choice classes)) cases

-- those of all cases of a leaf
abbrev pub leaf_faults : Design → Leaf → Choice → List Fault
leaf_faults d leaf choice = faults_in d leaf choice (leaf_cases d.sets leaf.params choice.keeps)

-- those of these leaves, each with the choice at its place
abbrev pub faults_of_widths : Design → List Leaf → List Choice → List Fault
faults_of_widths d leaves choices = flat_map (λ (leaf, choice). leaf_faults d leaf choice) (zip leaves choices)

-- each leaf with its choice is one that the calls on a leaf take, and has not too many cases
abbrev pub AreParts : Design → List Leaf → List Choice → Type 0
AreParts d leaves choices = (u : ℕ) (leaf : Leaf) (choice : Choice) → slice_get leaves u ≡ Some leaf → slice_get choices u ≡ Some choice → IsPart d leaf choice × (cases_fault d leaf choice ≡ None)
