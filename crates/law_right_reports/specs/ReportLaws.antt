-- Laws of right reports of valid texts.
use Rattle.std.specs.Prelude.{◌≡◌, ℕ, List, map, slice_get, Some}
use Rattle.smv_core.specs.FlatOrder.{design_of}
use Rattle.smv_core.specs.Sound.{units}
use Rattle.smv_core.specs.declared.tree.Text.{Text}
use Rattle.smv_bits.specs.declared.Bits.{Bits}
use Rattle.law_obligations.specs.Outlines.{Entry}
use Rattle.smv_problem.specs.declared.report.Verdict.TheVariants.{True}
use Rattle.smv_problem.specs.declared.report.UnitResult.{UnitResult}
use Rattle.smv_problem.specs.declared.report.Report.{Report}
use Rattle.law_reports.specs.Reports.{IsReportOf}
use Rattle.law_valid_texts.specs.Reports.{IsValid, script_of_tree, unit_named, IsReportOfUnit}
use Rattle.law_units.specs.TextUnits.{written_name}
use Rattle.law_verdicts.specs.Invariants.{CasesHaveInvariants}

-- a right report names the units of the text, in the text's order
abbrev pub ReportsNameUnits : Type 0
ReportsNameUnits = (text : List ℕ) (tree : Text) → IsValid text tree → (bits : Bits) (nodes steps : ℕ) (report : Report) → IsReportOf (script_of_tree tree) bits nodes steps report →
    map (λ r. r.name) report.units ≡ map written_name (units (design_of tree))

-- each case of a unit that a right report tells true has an invariant
abbrev pub TrueUnitsHaveInvariants : Type 0
TrueUnitsHaveInvariants = (text : List ℕ) (tree : Text) → IsValid text tree → (bits : Bits) (nodes steps : ℕ) (report : Report) → IsReportOf (script_of_tree tree) bits nodes steps report →
    (u : ℕ) (entry : Entry) → slice_get (script_of_tree tree).entries u ≡ Some entry → (r : UnitResult) → slice_get report.units u ≡ Some r → r.verdict ≡ True → CasesHaveInvariants (script_of_tree tree) u entry

-- so has each case of a unit that a right report of it alone tells true
abbrev pub TrueUnitHasInvariants : Type 0
TrueUnitHasInvariants = (text name : List ℕ) (tree : Text) → IsValid text tree → (bits : Bits) (nodes steps u : ℕ) (entry : Entry) → unit_named (script_of_tree tree) name ≡ Some (u, entry) →
    (report : Report) → IsReportOfUnit (script_of_tree tree) bits nodes steps u entry report → (r : UnitResult) → slice_get report.units 0 ≡ Some r → r.verdict ≡ True → CasesHaveInvariants (script_of_tree tree) u entry
