use Rattle.std.specs.Prelude.{◌≡◌, ◌++◌, drop}
use Rattle.law_reports.specs.Lines.{time_lines}
use Rattle.smv_report_lines.proofs.paths.push_times.Given as goal

abbrev pub invariant-loop-time : goal.invariant-loop-time
invariant-loop-time l = l.out.items ++ time_lines l.design l.elements l.time (drop l.time l.path) ≡ l.initial.out.items ++ time_lines l.design l.elements 0 l.path
