use Rattle.std.specs.Prelude.{◌≡◌, ◌++◌, drop}
use Rattle.std.specs.List.{flat_map}
use Rattle.law_reports.specs.Lines.{verdict_lines}
use Rattle.smv_report_lines.proofs.lines.Given as goal

abbrev pub invariant-loop-unit : goal.invariant-loop-unit
invariant-loop-unit l =
    l.out.items ++ flat_map (λ u. verdict_lines l.report.design u.name u.params u.verdict) (drop l.unit-index l.report.units)
    ≡ flat_map (λ u. verdict_lines l.report.design u.name u.params u.verdict) l.report.units
