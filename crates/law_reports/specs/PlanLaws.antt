-- The laws: what the crate's public functions say.
use Rattle.std.specs.Prelude.{◌≡◌, ℕ, List, length, slice_get, Some}
use Rattle.smv_core.specs.declared.flat.Design.{Design}
use Rattle.smv_core.specs.declared.flat.Leaf.{Leaf}
use Rattle.smv_core.specs.declared.flat.Choice.{Choice}
use Rattle.smv_core.specs.declared.flat.Timed.{Timed}
use Rattle.smv_core.specs.declared.flat.Class.{Class}
use Rattle.smv_bits.specs.declared.Bits.{Bits}
use Rattle.law_obligations.specs.LeafCases.{leaf_cases}
use Rattle.law_obligations.specs.Units.{units_of, script_of}
use Rattle.law_obligations.specs.Times.{all_timed}
use Rattle.law_obligations.specs.Scripts.{case_at}
use Rattle.smv_problem.specs.declared.report.Verdict.{Verdict}
use Rattle.law_problems.specs.Parts.{entry_of, case_with}
use Rattle.law_reports.specs.Reports.{IsToldOf}
use Rattle.law_reports.specs.Told.{IsToldBy}

-- a leaf and its choice at a place of a design's lists, which have one for each unit; the leaf is that of the unit at its place
pub record IsAt (d : Design) (leaves : List Leaf) (choices : List Choice) (u : ℕ) (leaf : Leaf) (choice : Choice) : Type 0 where
  pub each_leaf : length leaves ≡ length (units_of d)
  pub each_choice : length choices ≡ length (units_of d)
  pub is_leaf : slice_get leaves u ≡ Some leaf
  pub is_choice : slice_get choices u ≡ Some choice
  pub is_unit : leaf.unit ≡ u

-- its entry is the one at that place of the script
abbrev pub PartsAreEntries : Type 0
PartsAreEntries = (d : Design) (leaves : List Leaf) (choices : List Choice) (u : ℕ) (leaf : Leaf) (choice : Choice) → IsAt d leaves choices u leaf choice →
    slice_get (script_of d leaves choices).entries u ≡ Some (entry_of d leaf choice)

-- with its times its cases are those of the script
abbrev pub CasesAreOfScripts : Type 0
CasesAreOfScripts = (d : Design) (leaves : List Leaf) (choices : List Choice) (u : ℕ) (leaf : Leaf) (choice : Choice) → IsAt d leaves choices u leaf choice →
    (times : Timed) → slice_get (all_timed (script_of d leaves choices)) u ≡ Some times → (classes : List Class) → case_with d leaf choice times classes ≡ case_at (script_of d leaves choices) u (entry_of d leaf choice) classes

-- and what is told of the leaf by all its cases is told of the unit
abbrev pub UnitsAreToldByCases : Type 0
UnitsAreToldByCases = (d : Design) (leaves : List Leaf) (choices : List Choice) (u : ℕ) (leaf : Leaf) (choice : Choice) → IsAt d leaves choices u leaf choice →
    (times : Timed) → slice_get (all_timed (script_of d leaves choices)) u ≡ Some times → (bits : Bits) (nodes steps : ℕ) (verdict : Verdict) →
    IsToldBy (case_with d leaf choice times) bits nodes steps (leaf_cases d.sets leaf.params choice.keeps) verdict → IsToldOf (script_of d leaves choices) bits nodes steps u (entry_of d leaf choice) verdict
