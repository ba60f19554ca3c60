-- What the pass over splits answers.
use Rattle.std.specs.Prelude.{◌≡◌, List, [], Some, None, Result, Ok, Err}
use Rattle.smv_core.specs.declared.fault.Refusal.{Refusal}
use Rattle.smv_core.specs.declared.fault.Refusal.TheVariants as refusal
use Rattle.smv_core.specs.declared.flat.Design.{Design}
use Rattle.smv_core.specs.declared.flat.Leaf.{Leaf}
use Rattle.smv_core.specs.declared.flat.Choice.{Choice}
use Rattle.law_obligations.specs.Sets.{Has}
use Rattle.law_obligations.specs.Outlines.{Entry}
use Rattle.law_obligations.specs.Units.{script_of}
use Rattle.law_obligations.specs.Checked.{IsSplit}
use Rattle.law_splits.specs.SplitLaws.{IsRead}
use Rattle.law_splits.specs.Leaves.{leaves_of}
use Rattle.law_splits.specs.SplitFaults.{faults_of_splits, first_fault_of_splits}

-- the leaf of each unit, where the design has no fault of splits, or else the first such fault; or memory ran out
abbrev pub AreLeaves : Design → Result (List Leaf) Refusal → Type 0
AreLeaves d (Ok leaves) = (first_fault_of_splits d ≡ None) × (leaves ≡ leaves_of d)
AreLeaves d (Err (refusal.Fault fault)) = first_fault_of_splits d ≡ Some fault
AreLeaves d (Err refusal.OutOfMemory) = Unit {0}

-- a design without a first fault of splits has none
abbrev pub NoneAreLeft : Type 0
NoneAreLeft = (d : Design) → first_fault_of_splits d ≡ None → faults_of_splits d ≡ []

-- so its leaves have the parameters and guards that the splits of their units give, whatever is chosen for them
abbrev pub LeavesHaveSplits : Type 0
LeavesHaveSplits = (d : Design) → IsRead d → first_fault_of_splits d ≡ None → (choices : List Choice) → (entry : Entry) → Has (script_of d (leaves_of d) choices).entries entry → IsSplit (script_of d (leaves_of d) choices) entry
