-- The status of a report.
use Rattle.std.specs.Prelude.{Bool, true, false, if◌then◌else◌}
use Rattle.std.specs.List.{list_any}
use Rattle.smv_problem.specs.declared.report.Verdict.{Verdict}
use Rattle.smv_problem.specs.declared.report.Verdict.TheVariants as verdict
use Rattle.smv_problem.specs.declared.report.Report.{Report}
use Rattle.smv_command.specs.declared.exit.Status.{Status}
use Rattle.smv_command.specs.declared.exit.Status.TheVariants as status

-- a unit is false
abbrev pub is_false : Verdict → Bool
is_false (verdict.False case elements path) = true
is_false _ = false

-- a unit is unknown under the budgets
abbrev pub is_unknown : Verdict → Bool
is_unknown (verdict.UnknownNodes case count) = true
is_unknown (verdict.UnknownSteps case) = true
is_unknown _ = false

-- the status of a report: a false unit comes before an unknown one, and where there is neither it is that of the command
abbrev pub status_of : Status → Report → Status
status_of proved report =
    if list_any (λ u. is_false u.verdict) report.units then status.SomeFalse
    else (if list_any (λ u. is_unknown u.verdict) report.units then status.SomeUnknown else proved)
