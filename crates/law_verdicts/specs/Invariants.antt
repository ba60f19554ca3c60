-- True verdicts have invariants: sets of states that meet the four conditions of induction.
use Rattle.std.specs.Prelude.{◌≡◌, ℕ, List, slice_get, Some, Bool}
use Rattle.smv_core.specs.declared.flat.Class.{Class}
use Rattle.smv_bits.specs.declared.Bits.{Bits}
use Rattle.law_obligations.specs.Sets.{Has}
use Rattle.law_obligations.specs.Outlines.{Entry, Script}
use Rattle.law_obligations.specs.Checked.{IsChecked}
use Rattle.law_obligations.specs.Scripts.{case_at, classes_of, HaveValues}
use Rattle.law_obligations.specs.Bits.{Bits as Assignment}
use Rattle.law_obligations.specs.Readings.{PosedCase, IsCase}
use Rattle.law_obligations.specs.CasePaths.{IsInvariant}
use Rattle.law_events.specs.Events.Event.{Shut}
use Rattle.smv_problem.specs.declared.report.Verdict.TheVariants.{True}
use Rattle.smv_problem.specs.declared.report.UnitResult.{UnitResult}
use Rattle.smv_problem.specs.declared.report.Report.{Report}
use Rattle.law_reports.specs.Verdicts.{IsCaseVerdict}
use Rattle.law_reports.specs.Reports.{IsResultOf, IsReportOf}

-- some set of assignments of the case's bits meets the four conditions of induction
abbrev pub HasInvariant : PosedCase → Type 0
HasInvariant c = (set : Assignment → Bool) × IsInvariant c set

-- a case that is true has an invariant
abbrev pub TrueCasesHaveInvariants : Type 0
TrueCasesHaveInvariants = (c : PosedCase) → IsCase c → (bits : Bits) (nodes steps k : ℕ) → IsCaseVerdict bits nodes steps c (Shut k) → HasInvariant c

-- each case of the unit at this place has an invariant
abbrev pub CasesHaveInvariants : Script → ℕ → Entry → Type 0
CasesHaveInvariants s u entry = (classes : List Class) → Has (classes_of s entry) classes → HasInvariant (case_at s u entry classes)

-- where the unit is told true, each of its cases has an invariant
abbrev pub TrueResultsHaveInvariants : Type 0
TrueResultsHaveInvariants = (s : Script) → IsChecked s → HaveValues s.design → (bits : Bits) (nodes steps u : ℕ) (entry : Entry) → slice_get s.entries u ≡ Some entry →
    (r : UnitResult) → IsResultOf s bits nodes steps u entry r → r.verdict ≡ True → CasesHaveInvariants s u entry

-- so of each unit that a right report tells true
abbrev pub TrueReportsHaveInvariants : Type 0
TrueReportsHaveInvariants = (s : Script) → IsChecked s → HaveValues s.design → (bits : Bits) (nodes steps : ℕ) (report : Report) → IsReportOf s bits nodes steps report →
    (u : ℕ) (entry : Entry) → slice_get s.entries u ≡ Some entry → (r : UnitResult) → slice_get report.units u ≡ Some r → r.verdict ≡ True → CasesHaveInvariants s u entry
