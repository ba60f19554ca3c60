-- When a report is right for a script.
use Rattle.std.specs.Prelude.{◌≡◌, ℕ, suc, ◌-◌, List, [], ◌∷◌, map, length}
use Rattle.smv_core.specs.declared.flat.Element.{Element}
use Rattle.smv_bits.specs.declared.Bits.{Bits}
use Rattle.law_obligations.specs.Sets.{Has}
use Rattle.law_obligations.specs.May.{AbsState}
use Rattle.law_obligations.specs.Outlines.{Entry, Script, unit_in}
use Rattle.law_splits.specs.Leaves.{name_of}
use Rattle.law_events.specs.Events.Event.{Counted, Reached, Images}
use Rattle.law_obligations.specs.Readings.{PosedCase}
use Rattle.law_obligations.specs.CasePaths.{IsShortest}
use Rattle.law_obligations.specs.Scripts.{case_at}
use Rattle.smv_problem.specs.declared.problem.AbsState.{AbsState as StateData}
use Rattle.smv_problem.specs.declared.report.Verdict.{Verdict}
use Rattle.smv_problem.specs.declared.report.Verdict.TheVariants.{True, False, UnknownNodes, UnknownSteps}
use Rattle.smv_problem.specs.declared.report.UnitResult.{UnitResult}
use Rattle.smv_problem.specs.declared.report.Report.{Report}
use Rattle.smv_problem.specs.Written.{written_element, written_state}
use Rattle.law_reports.specs.Verdicts.{LeafVerdict, all_true, fails, IsUnitVerdict}

-- a shortest violating path of a case, written as data
pub record IsShown (c : PosedCase) (steps : ℕ) (elements : List Element) (path : List StateData) : Type 0 where
  pub states : List AbsState
  pub is_shortest : IsShortest c.problem steps states
  pub elements_are : elements ≡ map written_element c.elements
  pub path_is : path ≡ map (written_state c) states

module _ (s : Script) (bits : Bits) (nodes steps : ℕ) where
  -- what is told of the unit at this place is its verdict; a false one is shown by a shortest violating path of the first case that is not true
  abbrev pub IsToldOf : ℕ → Entry → Verdict → Type 0
  IsToldOf u entry True = IsUnitVerdict s bits nodes steps u entry all_true
  IsToldOf u entry (False case elements path) = (k : ℕ) × IsUnitVerdict s bits nodes steps u entry (fails case.classes (Reached k)) × IsShown (case_at s u entry case.classes) k elements path
  IsToldOf u entry (UnknownNodes case count) = IsUnitVerdict s bits nodes steps u entry (fails case.classes (Counted count))
  IsToldOf u entry (UnknownSteps case) = IsUnitVerdict s bits nodes steps u entry (fails case.classes Images)

  -- the result of the unit at this place: its name, the parameters of its leaf, and its verdict
  pub record IsResultOf (u : ℕ) (entry : Entry) (r : UnitResult) : Type 0 where
    pub name : r.name ≡ name_of s.design (unit_in s.design entry.unit)
    pub params : r.params ≡ entry.leaf.params
    pub verdict : IsToldOf u entry r.verdict

  -- the results of the units from a place on, in flat order
  abbrev pub AreResultsFrom : ℕ → List Entry → List UnitResult → Type 0
  AreResultsFrom u [] [] = Unit {0}
  AreResultsFrom u (entry ∷ entries) (r ∷ results) = IsResultOf u entry r × AreResultsFrom (suc u) entries results
  AreResultsFrom u _ _ = ⊥

  -- a result for each unit, in flat order
  pub record IsReportOf (report : Report) : Type 0 where
    pub design : report.design ≡ s.design
    pub units : AreResultsFrom 0 s.entries report.units

-- the verdict that is told
abbrev pub told : Verdict → LeafVerdict
told True = all_true
told (False case elements path) = fails case.classes (Reached (length path - 1))
told (UnknownNodes case count) = fails case.classes (Counted count)
told (UnknownSteps case) = fails case.classes Images

-- the verdicts that are told of units
abbrev pub told_of : List UnitResult → List LeafVerdict
told_of results = map (λ r. told r.verdict) results

-- every unit is true
abbrev pub AllTrueUnits : List UnitResult → Type 0
AllTrueUnits results = (r : UnitResult) → Has results r → r.verdict ≡ True
