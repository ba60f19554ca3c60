-- The laws: what the crate's public functions say.
use Rattle.std.specs.Prelude.{ℕ}
use Rattle.smv_bits.specs.declared.Bits.{Bits}
use Rattle.law_obligations.specs.Outlines.{Script}
use Rattle.smv_problem.specs.declared.report.Report.{Report}
use Rattle.law_reports.specs.Verdicts.{AreVerdicts, AllTrue, AreOneEach}
use Rattle.law_reports.specs.Reports.{IsReportOf, told_of, AllTrueUnits}

-- a right report tells the verdicts of the units
abbrev pub ReportsTell : Type 0
ReportsTell = (s : Script) (bits : Bits) (nodes steps : ℕ) (report : Report) → IsReportOf s bits nodes steps report → AreVerdicts s bits nodes steps (told_of report.units)

-- so two right reports differ at most in the paths that they show; over near bits, also in what one of them leaves unknown
abbrev pub OneReport : Type 0
OneReport = (s : Script) (bits : Bits) (nodes steps : ℕ) (report other : Report) → IsReportOf s bits nodes steps report → IsReportOf s bits nodes steps other → AreOneEach bits (told_of report.units) (told_of other.units)

-- where each unit is told true, each is true
abbrev pub TrueUnitsAreTrue : Type 0
TrueUnitsAreTrue = (report : Report) → AllTrueUnits report.units → AllTrue (told_of report.units)
