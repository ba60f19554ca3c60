-- What is told of a leaf by its cases in order.
use Rattle.std.specs.Prelude.{ℕ, List}
use Rattle.smv_core.specs.declared.flat.Class.{Class}
use Rattle.smv_bits.specs.declared.Bits.{Bits}
use Rattle.law_events.specs.Events.Event.{Counted, Reached, Images}
use Rattle.law_obligations.specs.Readings.{PosedCase}
use Rattle.smv_problem.specs.declared.report.Verdict.{Verdict}
use Rattle.smv_problem.specs.declared.report.Verdict.TheVariants.{True, False, UnknownNodes, UnknownSteps}
use Rattle.law_reports.specs.Verdicts.{IsVerdictFor, AreTrueCases, FailsFirst}
use Rattle.law_reports.specs.Reports.{IsShown}

-- where each case, with its elements, is known by its classes, and for budgets of nodes and of steps, which are images that a search makes
module _ (case_for : List Class → PosedCase) (bits : Bits) (nodes steps : ℕ) where
  -- the verdict by these cases: true, or that of the first that is not, and a false one is shown by a shortest violating path
  abbrev pub IsToldBy : List (List Class) → Verdict → Type 0
  IsToldBy cases True = AreTrueCases (IsVerdictFor case_for bits nodes steps) cases
  IsToldBy cases (False c elements path) = (k : ℕ) × FailsFirst (IsVerdictFor case_for bits nodes steps) cases c.classes (Reached k) × IsShown (case_for c.classes) k elements path
  IsToldBy cases (UnknownNodes c count) = FailsFirst (IsVerdictFor case_for bits nodes steps) cases c.classes (Counted count)
  IsToldBy cases (UnknownSteps c) = FailsFirst (IsVerdictFor case_for bits nodes steps) cases c.classes Images
