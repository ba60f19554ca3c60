-- What a call owes where a unit is to be confirmed at given sizes: its status, and what is written.
use Rattle.std.specs.Prelude.{ℕ, ◌-◌, ◌++◌, List, length, codes}
use Rattle.std.specs.Fmt.{decimal}
use Rattle.smv_core.specs.Values.{Name}
use Rattle.smv_core.specs.declared.flat.Design.{Design}
use Rattle.smv_core.specs.declared.flat.Unit.{Unit as DesignUnit}
use Rattle.smv_problem.specs.declared.report.Verdict.{Verdict}
use Rattle.smv_problem.specs.declared.report.Verdict.TheVariants as verdict
use Rattle.smv_command.specs.declared.exit.Status.{Status}
use Rattle.smv_command.specs.declared.exit.Status.TheVariants as status
use Rattle.law_obligations.specs.Outlines.{unit_in}
use Rattle.law_splits.specs.Leaves.{own_params}
use Rattle.law_reports.specs.Lines.{line}
use Rattle.smv_report_lines.specs.Parts.{heading, details}

-- the status of a verdict at given sizes
abbrev pub confirmed_status : Verdict → Status
confirmed_status verdict.True = status.HoldsHere
confirmed_status (verdict.False case elements path) = status.Real
confirmed_status (verdict.UnknownNodes case count) = status.SomeUnknown
confirmed_status (verdict.UnknownSteps case) = status.SomeUnknown

-- the line of the unit: that it holds, or at which time a run breaks it, or, as in a report, that it is unknown
abbrev pub confirmed_heading : Name → Verdict → List ℕ
confirmed_heading name verdict.True = line (name ++ codes ": holds")
confirmed_heading name (verdict.False case elements path) = line (name ++ codes ": real at " ++ decimal (length path - 1))
confirmed_heading name (verdict.UnknownNodes case count) = heading name (verdict.UnknownNodes case count)
confirmed_heading name (verdict.UnknownSteps case) = heading name (verdict.UnknownSteps case)

-- that line, and below it the case, by the unit's own parameters, and the path
abbrev pub confirmed_lines : Design → DesignUnit → Name → Verdict → List ℕ
confirmed_lines d unit name v = confirmed_heading name v ++ details d (own_params d (unit_in d unit)) v
